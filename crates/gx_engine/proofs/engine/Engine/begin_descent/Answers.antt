use Rattle.std.proofs.Common.{◌∙◌, ap, refl, subst, ℕ, ◌-◌}
use Rattle.gx_machine.specs.declared.call.Call.TheVariants.{Insert}
use Rattle.gx_phases.specs.States.{phase_at}
use Rattle.gx_engine.specs.declared.work.Work.TheVariants.{Descends, Looks}
use Rattle.gx_engine.specs.Moves.{Moves}
use Rattle.gx_engine.specs.States.{Parts}
use Rattle.gx_engine.proofs.AtWork.{as_kept}
use Rattle.gx_engine.proofs.LookMoves.{replaced}
use Rattle.gx_engine.proofs.writes.looks.Moves.{descends_moves}
use Rattle.gx_engine.proofs.Further.{moves_as}
use Rattle.gx_engine.proofs.engine.Engine.begin_descent.Goals as goal

pub returns-clause-descends : goal.returns-clause-descends
returns-clause-descends g c entry look phase =
    let e : Parts g.row.K-Key.Denot g.row.D.Denot =
    record { volume = c.self.inside.storage; sessions = c.self.inside.sessions; in_flight = c.self.inside.in_flight; checkpoint = c.self.inside.checkpoint } in
    let at = ap (λ (x : Parts g.row.K-Key.Denot g.row.D.Denot). phase_at (c.args.session - 1) x.sessions.phases) c.self.view_is ∙ phase in
    let work = Descends 0 c.new-root.result in
    rw (← c.self.view_is, replaced c.args.session (Insert entry) (Looks look) work e.sessions c.replace_work.new.self at c.replace_work.ensures.state) (work, refl)

pub returns-clause-moves : goal.returns-clause-moves
returns-clause-moves g c entry look phase done l =
    let e : Parts g.row.K-Key.Denot g.row.D.Denot =
    record { volume = c.self.inside.storage; sessions = c.self.inside.sessions; in_flight = c.self.inside.in_flight; checkpoint = c.self.inside.checkpoint } in
    let at = ap (λ (x : Parts g.row.K-Key.Denot g.row.D.Denot). phase_at (c.args.session - 1) x.sessions.phases) c.self.view_is ∙ phase in
    let work = Descends 0 c.new-root.result in
    let works = ap (λ (x : Parts g.row.K-Key.Denot g.row.D.Denot). x.sessions.failed) c.self.view_is ∙ c.requires.works in
    let item = c.new-root.ensures ∙ ap (λ (n : ℕ). record { page = 1; seen = n }) c.counter.ensures in
    rw (← c.self.view_is, replaced c.args.session (Insert entry) (Looks look) work e.sessions c.replace_work.new.self at c.replace_work.ensures.state)
    (moves_as _ _ _ _ _ _ c.args.session _ _ (as_kept c.args.session e (Insert entry) (Looks look) at)
    (descends_moves _ (c.a_class_is_lawful.ensures l) _ _ _ (g.D.SectorDisk.state e.volume.shelf.disk) e c.stands.ensures c.args.session c.requires.session entry (Insert entry) refl (Looks look) at
    look works done c.new-root.result item refl))
