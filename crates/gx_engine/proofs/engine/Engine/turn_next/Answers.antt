use Rattle.std.proofs.Common.{◌≡◌, ◌∙◌, ap, subst}
use Rattle.gx_storage.specs.Flushing.{ReadyToTurn}
use Rattle.gx_storage.specs.State.{Volume}
use Rattle.gx_engine.specs.declared.checkpoint.Checkpoint.{Checkpoint}
use Rattle.gx_engine.specs.declared.checkpoint.Checkpoint.TheVariants.{Turning}
use Rattle.gx_engine.specs.States.{Parts, StandsIn}
use Rattle.gx_engine.proofs.checkpoints.Turns.{turn_fails, turn_leads}
use Rattle.gx_engine.proofs.engine.Engine.turn_next.Goals as goal

pub returns-in-Ok-clause-leads : goal.returns-in-Ok-clause-leads
returns-in-Ok-clause-leads g c =
    let old : Parts g.row.K-Key.Denot g.row.D.Denot = record { volume = c.self.inside.storage; sessions = c.self.inside.sessions; in_flight = c.self.inside.in_flight; checkpoint = c.self.inside.checkpoint } in
    let w = c.turn_step.new.self in
    let state = g.D.SectorDisk.state in
    let works = ap (λ (x : Parts g.row.K-Key.Denot g.row.D.Denot). x.sessions.failed) c.self.view_is ∙ c.requires.works in
    let turning : old.checkpoint ≡ Turning = ap (λ (x : Parts g.row.K-Key.Denot g.row.D.Denot). x.checkpoint) c.self.view_is ∙ c.requires.turning in
    let ready : ReadyToTurn old.volume = subst (λ (x : Checkpoint). StandsIn x old.volume) turning c.self.invariant.stands in
    rw (← c.self.view_is, c.after_call-self-inside.ensures) (λ l. turn_leads _ _ _ _
    (state old.volume.shelf.disk) (state w.shelf.disk) old (c.a_class_is_lawful.ensures l) w works (ap (λ (v : Volume g.row.D.Denot). v.most) c.turn_step.ensures.only) turning ready.idle c.in-Ok.call
    c.in-Ok.ensures.turns (c.in-Ok.ensures.keeps l))

pub returns-in-Err-clause-leads : goal.returns-in-Err-clause-leads
returns-in-Err-clause-leads g c =
    let old : Parts g.row.K-Key.Denot g.row.D.Denot = record { volume = c.self.inside.storage; sessions = c.self.inside.sessions; in_flight = c.self.inside.in_flight; checkpoint = c.self.inside.checkpoint } in
    let w = c.turn_step.new.self in
    let state = g.D.SectorDisk.state in
    let works = ap (λ (x : Parts g.row.K-Key.Denot g.row.D.Denot). x.sessions.failed) c.self.view_is ∙ c.requires.works in
    let turning : old.checkpoint ≡ Turning = ap (λ (x : Parts g.row.K-Key.Denot g.row.D.Denot). x.checkpoint) c.self.view_is ∙ c.requires.turning in
    rw (← c.self.view_is, c.fail.ensures.failed, c.fail.ensures.outcome) (λ l. turn_fails _ _ _ _
    (state old.volume.shelf.disk) (state w.shelf.disk) old (c.a_class_is_lawful.ensures l) w works (ap (λ (v : Volume g.row.D.Denot). v.most) c.turn_step.ensures.only) turning c.in-Err.field-0
    (c.in-Err.ensures.keeps l))
