use Rattle.std.proofs.Common.{◌∙◌, ap, sym}
use Rattle.gx_storage.specs.State.{Volume}
use Rattle.gx_engine.specs.States.{Parts, runs}
use Rattle.gx_engine.proofs.Flushing.{ended_spared, idle_spared, log_fails, log_made, noted_volume}
use Rattle.gx_engine.proofs.Serving.{is_calm}
use Rattle.gx_engine.proofs.engine.Engine.log_step.Goals as goal

pub returns-in-Ok-clause-leads : goal.returns-in-Ok-clause-leads
returns-in-Ok-clause-leads g c =
    let old : Parts g.row.K-Key.Denot g.row.D.Denot = record { volume = c.self.inside.storage; sessions = c.self.inside.sessions; in_flight = c.self.inside.in_flight; checkpoint = c.self.inside.checkpoint } in
    let w = c.log_step.new.self in
    let state = g.D.SectorDisk.state in
    rw (← c.self.view_is, c.note.ensures.noted, c.note.ensures.outcome, noted_volume c.in-Ok.stage (record old { volume = w })) (λ l. log_made _ (c.a_class_is_lawful.ensures l) _ _ _
    (state old.volume.shelf.disk) (state w.shelf.disk) old w (sym c.has_failed.ensures.failed ∙ c.if-has_failed.false) (ap (λ (v : Volume g.row.D.Denot). v.most) c.log_step.ensures.only)
    (is_calm old.checkpoint (ap (λ (x : Parts g.row.K-Key.Denot g.row.D.Denot). runs x.checkpoint) c.self.view_is ∙ sym c.is_checkpointing.ensures ∙ c.if-is_checkpointing.false)) c.in-Ok.stage
    c.in-Ok.ensures.goes (c.in-Ok.ensures.keeps l))

pub returns-in-Err-clause-leads : goal.returns-in-Err-clause-leads
returns-in-Err-clause-leads g c =
    let old : Parts g.row.K-Key.Denot g.row.D.Denot = record { volume = c.self.inside.storage; sessions = c.self.inside.sessions; in_flight = c.self.inside.in_flight; checkpoint = c.self.inside.checkpoint } in
    let w = c.log_step.new.self in
    let state = g.D.SectorDisk.state in
    rw (← c.self.view_is, c.fail.ensures.failed, c.fail.ensures.outcome) (λ l. log_fails _ (c.a_class_is_lawful.ensures l) _ _ _
    (state old.volume.shelf.disk) (state w.shelf.disk) old w (sym c.has_failed.ensures.failed ∙ c.if-has_failed.false) (ap (λ (v : Volume g.row.D.Denot). v.most) c.log_step.ensures.only)
    (is_calm old.checkpoint (ap (λ (x : Parts g.row.K-Key.Denot g.row.D.Denot). runs x.checkpoint) c.self.view_is ∙ sym c.is_checkpointing.ensures ∙ c.if-is_checkpointing.false)) c.in-Err.field-0
    c.in-Err.ensures.goes (c.in-Err.ensures.keeps l))

pub returns-then-has_failed-clause-leads : goal.returns-then-has_failed-clause-leads
returns-then-has_failed-clause-leads g c = λ l. ended_spared _ _ _ _ _ c.args.self.now _ _

pub returns-then-is_checkpointing-clause-leads : goal.returns-then-is_checkpointing-clause-leads
returns-then-is_checkpointing-clause-leads g c = λ l. idle_spared _ _ _ _ _ c.args.self.now _ _
