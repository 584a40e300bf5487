use Rattle.std.proofs.Common.{◌∙◌, ap, subst, ◌-◌}
use Rattle.gx_machine.specs.declared.call.Call.TheVariants.{Search}
use Rattle.gx_machine.specs.Keys.{keys}
use Rattle.gx_phases.specs.declared.phase.Phase.{Phase}
use Rattle.gx_phases.specs.Moves.{is_open}
use Rattle.gx_phases.specs.States.{IsKept, phase_at}
use Rattle.gx_engine.specs.declared.work.Work.{Work}
use Rattle.gx_engine.specs.declared.work.Work.TheVariants.{Looks}
use Rattle.gx_engine.specs.Moves.{Moves}
use Rattle.gx_engine.specs.States.{Parts}
use Rattle.gx_engine.proofs.AtWork.{as_kept}
use Rattle.gx_engine.proofs.searches.Moves.{closed_moves, found_moves}
use Rattle.gx_engine.proofs.Further.{moves_as}
use Rattle.gx_engine.proofs.engine.Engine.find.Goals as goal

pub answer_of-requires-clause-looks : goal.answer_of-requires-clause-looks
answer_of-requires-clause-looks g c =
    (c.args.query, c.requires.ends.0, c.requires.ends.1)

pub close-requires-clause-open : goal.close-requires-clause-open
close-requires-clause-open g c =
    ap (λ (p : Phase g.row.K-Key.Denot (Work g.row.K-Key.Denot)). is_open p) c.requires.ends.1

pub answer-requires-clause-open : goal.answer-requires-clause-open
answer-requires-clause-open g c =
    let e : Parts g.row.K-Key.Denot g.row.D.Denot =
    record { volume = c.self.inside.storage; sessions = c.self.inside.sessions; in_flight = c.self.inside.in_flight; checkpoint = c.self.inside.checkpoint } in
    let at = ap (λ (x : Parts g.row.K-Key.Denot g.row.D.Denot). phase_at (c.args.session - 1) x.sessions.phases) c.self.view_is ∙ c.requires.ends.1 in
    ap (λ (p : Phase g.row.K-Key.Denot (Work g.row.K-Key.Denot)). is_open p) at

pub returns-in-Ok-clause-moves : goal.returns-in-Ok-clause-moves
returns-in-Ok-clause-moves g c l =
    let e : Parts g.row.K-Key.Denot g.row.D.Denot =
    record { volume = c.self.inside.storage; sessions = c.self.inside.sessions; in_flight = c.self.inside.in_flight; checkpoint = c.self.inside.checkpoint } in
    let k = keys g.K.Key.Ord.cmp g.K.Key.Shape.overlap g.K.Key.Shape.inside in
    let at = ap (λ (x : Parts g.row.K-Key.Denot g.row.D.Denot). phase_at (c.args.session - 1) x.sessions.phases) c.self.view_is ∙ c.requires.ends.1 in
    let works = ap (λ (x : Parts g.row.K-Key.Denot g.row.D.Denot). x.sessions.failed) c.self.view_is ∙ c.requires.works in
    let same = as_kept c.args.session e (Search c.args.query) (Looks c.requires.ends.0) at in
    rw (c.answer.ensures, ← c.self.view_is)
    (moves_as _ _ _ _ _ _ c.args.session _ _ same
    (found_moves _ (c.a_class_is_lawful.ensures l) _ _ _ (g.D.SectorDisk.state e.volume.shelf.disk) e c.stands.ensures c.args.session c.requires.session c.args.query (Looks c.requires.ends.0) at
    c.requires.ends.0 works c.requires.ends.2 _ (c.new.ensures ∙ c.in-Ok.ensures c.args.query c.requires.ends.0 c.requires.ends.1)))

pub returns-in-Err-clause-moves : goal.returns-in-Err-clause-moves
returns-in-Err-clause-moves g c l =
    let e : Parts g.row.K-Key.Denot g.row.D.Denot = c.args.self.now in
    let k = keys g.K.Key.Ord.cmp g.K.Key.Shape.overlap g.K.Key.Shape.inside in
    let kept = subst (λ (x : Parts g.row.K-Key.Denot g.row.D.Denot). IsKept k x.sessions) c.self.view_is c.stands.ensures in
    let same = as_kept c.args.session e (Search c.args.query) (Looks c.requires.ends.0) c.requires.ends.1 in
    rw (c.close.ensures.closed, c.close.ensures.outcome)
    (moves_as _ _ _ _ _ _ c.args.session _ _ same
    (closed_moves _ (c.a_class_is_lawful.ensures l) _ _ _ (g.D.SectorDisk.state e.volume.shelf.disk) e kept
    c.args.session c.requires.session c.args.query (Looks c.requires.ends.0) c.requires.ends.1 c.requires.ends.0 c.requires.works))
