use Rattle.std.proofs.Common.{◌≡◌, ◌∙◌, ap}
use Rattle.gx_engine.specs.declared.checkpoint.Checkpoint.TheVariants.{Off}
use Rattle.gx_engine.specs.States.{Parts}
use Rattle.gx_engine.proofs.checkpoints.Turns.{begun_leads, rests_so}
use Rattle.gx_engine.proofs.engine.Engine.begin_checkpoint.Goals as goal

pub returns-clause-leads : goal.returns-clause-leads
returns-clause-leads g c =
    let old : Parts g.row.K-Key.Denot g.row.D.Denot = record { volume = c.self.inside.storage; sessions = c.self.inside.sessions; in_flight = c.self.inside.in_flight; checkpoint = c.self.inside.checkpoint } in
    let off : old.checkpoint ≡ Off = ap (λ (x : Parts g.row.K-Key.Denot g.row.D.Denot). x.checkpoint) c.self.view_is ∙ c.requires.off in
    rw (← c.self.view_is) (λ l. begun_leads _ _ _ _ _ _ old off _ _ (c.run_on.ensures.leads l))

pub returns-then-places-lt-CHECKPOINT_AT-clause-leads : goal.returns-then-places-lt-CHECKPOINT_AT-clause-leads
returns-then-places-lt-CHECKPOINT_AT-clause-leads g c = λ l. rests_so _ _ _ _ _ c.args.self.now
