use Rattle.std.proofs.Common.{◌≡◌, ◌∙◌, ap}
use Rattle.gx_storage.specs.State.{Volume}
use Rattle.gx_engine.specs.declared.checkpoint.Checkpoint.TheVariants.{Running}
use Rattle.gx_engine.specs.States.{Parts}
use Rattle.gx_engine.proofs.checkpoints.Turns.{gate_fails, gate_leads, running_is_calm}
use Rattle.gx_engine.proofs.Flushing.{noted_volume}
use Rattle.gx_engine.proofs.engine.Engine.gate_next.Goals as goal

pub returns-in-Ok-clause-leads : goal.returns-in-Ok-clause-leads
returns-in-Ok-clause-leads g c =
    let old : Parts g.row.K-Key.Denot g.row.D.Denot = record { volume = c.self.inside.storage; sessions = c.self.inside.sessions; in_flight = c.self.inside.in_flight; checkpoint = c.self.inside.checkpoint } in
    let w = c.log_step.new.self in
    let state = g.D.SectorDisk.state in
    let works = ap (λ (x : Parts g.row.K-Key.Denot g.row.D.Denot). x.sessions.failed) c.self.view_is ∙ c.requires.works in
    let running : old.checkpoint ≡ Running = ap (λ (x : Parts g.row.K-Key.Denot g.row.D.Denot). x.checkpoint) c.self.view_is ∙ c.requires.running in
    rw (← c.self.view_is, c.note.ensures.noted, c.note.ensures.outcome, noted_volume c.in-Ok.stage (record old { volume = w })) (λ l. gate_leads _ _ _ _
    (state old.volume.shelf.disk) (state w.shelf.disk) old (c.a_class_is_lawful.ensures l) w works (ap (λ (v : Volume g.row.D.Denot). v.most) c.log_step.ensures.only) (running_is_calm old.checkpoint running) c.in-Ok.stage
    c.in-Ok.ensures.goes (c.in-Ok.ensures.keeps l))

pub returns-in-Err-clause-leads : goal.returns-in-Err-clause-leads
returns-in-Err-clause-leads g c =
    let old : Parts g.row.K-Key.Denot g.row.D.Denot = record { volume = c.self.inside.storage; sessions = c.self.inside.sessions; in_flight = c.self.inside.in_flight; checkpoint = c.self.inside.checkpoint } in
    let w = c.log_step.new.self in
    let state = g.D.SectorDisk.state in
    let works = ap (λ (x : Parts g.row.K-Key.Denot g.row.D.Denot). x.sessions.failed) c.self.view_is ∙ c.requires.works in
    let running : old.checkpoint ≡ Running = ap (λ (x : Parts g.row.K-Key.Denot g.row.D.Denot). x.checkpoint) c.self.view_is ∙ c.requires.running in
    rw (← c.self.view_is, c.fail.ensures.failed, c.fail.ensures.outcome) (λ l. gate_fails _ _ _ _
    (state old.volume.shelf.disk) (state w.shelf.disk) old (c.a_class_is_lawful.ensures l) w works (ap (λ (v : Volume g.row.D.Denot). v.most) c.log_step.ensures.only) (running_is_calm old.checkpoint running) c.in-Err.field-0
    c.in-Err.ensures.goes (c.in-Err.ensures.keeps l))
