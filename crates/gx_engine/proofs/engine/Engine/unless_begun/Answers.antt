use Rattle.std.proofs.Common.{◌≡◌, ◌∙◌, ap, sym, ◌-◌}
use Rattle.gx_phases.specs.States.{State, phase_at}
use Rattle.gx_engine.specs.declared.work.Work.{Work}
use Rattle.gx_engine.specs.declared.work.Work.TheVariants.{Looks, Rests}
use Rattle.gx_engine.specs.Looks.{work_before}
use Rattle.gx_engine.specs.Moves.{calling}
use Rattle.gx_engine.specs.States.{Parts}
use Rattle.gx_engine.proofs.AtWork.{as_kept}
use Rattle.gx_engine.proofs.LookMoves.{replaced}
use Rattle.gx_engine.proofs.engine.Engine.unless_begun.Goals as goal

pub returns-clause-held : goal.returns-clause-held
returns-clause-held g c call look phase =
    let e : Parts g.row.K-Key.Denot g.row.D.Denot =
    record { volume = c.self.inside.storage; sessions = c.self.inside.sessions; in_flight = c.self.inside.in_flight; checkpoint = c.self.inside.checkpoint } in
    let at = ap (λ (x : Parts g.row.K-Key.Denot g.row.D.Denot). phase_at (c.args.session - 1) x.sessions.phases) c.self.view_is ∙ phase in
    let put = replaced c.args.session call (Looks look) Rests e.sessions c.replace_work.new.self at c.replace_work.ensures.state in
    rw (← c.self.view_is, c.if-begun.false) (ap (λ (x : State g.row.K-Key.Denot (Work g.row.K-Key.Denot)). record e { sessions = x }) put)

pub returns-then-begun-clause-held : goal.returns-then-begun-clause-held
returns-then-begun-clause-held g c call look phase =
    rw (c.if-begun.true) (sym (as_kept c.args.session c.args.self.now call (Looks look) phase))
