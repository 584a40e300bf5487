use Rattle.std.proofs.Common.{◌∙◌, ap, refl, subst, ◌-◌}
use Rattle.gx_machine.specs.declared.call.Call.TheVariants.{Delete}
use Rattle.gx_phases.specs.States.{phase_at}
use Rattle.gx_engine.specs.declared.work.Work.TheVariants.{Looks}
use Rattle.gx_engine.specs.Moves.{Moves}
use Rattle.gx_engine.specs.States.{Parts}
use Rattle.gx_engine.proofs.AtWork.{as_kept}
use Rattle.gx_engine.proofs.writes.looks.Moves.{absent_moves}
use Rattle.gx_engine.proofs.Further.{moves_as}
use Rattle.gx_engine.proofs.engine.Engine.find_absent.Goals as goal

pub returns-clause-moves : goal.returns-clause-moves
returns-clause-moves g c entry look phase done l =
    let e : Parts g.row.K-Key.Denot g.row.D.Denot =
    record { volume = c.self.inside.storage; sessions = c.self.inside.sessions; in_flight = c.self.inside.in_flight; checkpoint = c.self.inside.checkpoint } in
    let at = ap (λ (x : Parts g.row.K-Key.Denot g.row.D.Denot). phase_at (c.args.session - 1) x.sessions.phases) c.self.view_is ∙ phase in
    let works = ap (λ (x : Parts g.row.K-Key.Denot g.row.D.Denot). x.sessions.failed) c.self.view_is ∙ c.requires.works in
    rw (c.close.ensures.closed, ← c.self.view_is)
    (moves_as _ _ _ _ _ _ c.args.session _ _ (as_kept c.args.session e (Delete entry) (Looks look) at)
    (absent_moves _ (c.a_class_is_lawful.ensures l) _ _ _ (g.D.SectorDisk.state e.volume.shelf.disk) e c.stands.ensures c.args.session c.requires.session entry (Delete entry) refl (Looks look) at
    look works done refl))
