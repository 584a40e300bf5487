use Rattle.std.proofs.Common.{◌∙◌, ap, sym}
use Rattle.gx_engine.specs.States.{Parts}
use Rattle.gx_engine.proofs.checkpoints.Turns.{ended_so, sync_works}
use Rattle.gx_engine.proofs.engine.Engine.checkpoint_step.Goals as goal

pub returns-in-Off-clause-leads : goal.returns-in-Off-clause-leads
returns-in-Off-clause-leads g c =
    let works = ap (λ (x : Parts g.row.K-Key.Denot g.row.D.Denot). x.sessions.failed) (sym c.self.view_is) ∙ sym c.has_failed.ensures.failed ∙ c.if-has_failed.false in
    λ l. sync_works _ _ _ _ _ _ _ _ _ _ works (c.begin_checkpoint.ensures.leads l)

pub returns-in-Running-clause-leads : goal.returns-in-Running-clause-leads
returns-in-Running-clause-leads g c =
    let works = ap (λ (x : Parts g.row.K-Key.Denot g.row.D.Denot). x.sessions.failed) (sym c.self.view_is) ∙ sym c.has_failed.ensures.failed ∙ c.if-has_failed.false in
    λ l. sync_works _ _ _ _ _ _ _ _ _ _ works (c.run_on.ensures.leads l)

pub returns-in-Turning-clause-leads : goal.returns-in-Turning-clause-leads
returns-in-Turning-clause-leads g c =
    let works = ap (λ (x : Parts g.row.K-Key.Denot g.row.D.Denot). x.sessions.failed) (sym c.self.view_is) ∙ sym c.has_failed.ensures.failed ∙ c.if-has_failed.false in
    λ l. sync_works _ _ _ _ _ _ _ _ _ _ works (c.turn_next.ensures.leads l)

pub returns-then-has_failed-clause-leads : goal.returns-then-has_failed-clause-leads
returns-then-has_failed-clause-leads g c =
    let failed = ap (λ (x : Parts g.row.K-Key.Denot g.row.D.Denot). x.sessions.failed) (sym c.self.view_is) ∙ sym c.has_failed.ensures.failed ∙ c.if-has_failed.true in
    λ l. ended_so _ _ _ _ _ c.args.self.now _ failed
