use Rattle.std.proofs.Common.{◌≡◌, ◌∙◌, ap, sym, subst, ◌-◌, ◌<◌, length, List, arith}
use Rattle.gx_machine.specs.declared.call.Call.TheVariants.{Search}
use Rattle.gx_node.specs.Reach.{TraversalItem}
use Rattle.gx_node.specs.Reading.{format_of, is_node}
use Rattle.gx_phases.specs.declared.phase.Phase.TheVariants.{Open}
use Rattle.gx_phases.specs.States.{State, phase_at}
use Rattle.gx_engine.specs.declared.work.Work.{Work}
use Rattle.gx_engine.specs.declared.work.Work.TheVariants.{Looks, Rests}
use Rattle.gx_engine.specs.Looks.{HasEnded, IsFirst}
use Rattle.gx_engine.specs.Moves.{Moves, MovesOn, calling}
use Rattle.gx_engine.specs.Searches.{SearchComes, search_events}
use Rattle.gx_engine.specs.States.{Parts}
use Rattle.gx_engine.proofs.AtWork.{ended_since, rested}
use Rattle.gx_engine.proofs.LookMoves.{closes_moves, put_there, replaced}
use Rattle.gx_engine.proofs.Reading.{err_map, on_ok_map}
use Rattle.gx_engine.proofs.Further.{moves_as, on_as}
use Rattle.gx_engine.proofs.engine.Engine.begin_search.Goals as goal

pub read_on-requires-clause-looks : goal.read_on-requires-clause-looks
read_on-requires-clause-looks g c =
    let e : Parts g.row.K-Key.Denot g.row.D.Denot =
    record { volume = c.self.inside.storage; sessions = c.self.inside.sessions; in_flight = c.self.inside.in_flight; checkpoint = c.self.inside.checkpoint } in
    let at = ap (λ (x : Parts g.row.K-Key.Denot g.row.D.Denot). phase_at (c.args.session - 1) x.sessions.phases) c.self.view_is ∙ c.requires.rests in
    let call = Search c.args.query.now in
    let put = replaced c.args.session call Rests (Looks c.in-Ok.look) e.sessions c.replace_work.new.self at c.replace_work.ensures.state in
    let there = ap (λ (x : State g.row.K-Key.Denot (Work g.row.K-Key.Denot)). phase_at (c.args.session - 1) x.phases) put
    ∙ put_there _ e.sessions c.stands.ensures c.args.session c.requires.session (Open call (Looks c.in-Ok.look)) in
    let first = subst (λ (x : Parts g.row.K-Key.Denot g.row.D.Denot). IsFirst x c.in-Ok.look) (sym c.self.view_is) c.in-Ok.ensures in
    (c.in-Ok.look, there, subst (λ (xs : List TraversalItem). 0 < length xs) (sym first.0) (omega arith), first)

pub returns-in-Ok-clause-ends : goal.returns-in-Ok-clause-ends
returns-in-Ok-clause-ends g c =
    let e : Parts g.row.K-Key.Denot g.row.D.Denot =
    record { volume = c.self.inside.storage; sessions = c.self.inside.sessions; in_flight = c.self.inside.in_flight; checkpoint = c.self.inside.checkpoint } in
    let at = ap (λ (x : Parts g.row.K-Key.Denot g.row.D.Denot). phase_at (c.args.session - 1) x.sessions.phases) c.self.view_is ∙ c.requires.rests in
    let call = Search c.args.query.now in
    let put = replaced c.args.session call Rests (Looks c.in-Ok.look) e.sessions c.replace_work.new.self at c.replace_work.ensures.state in
    let there = ap (λ (x : State g.row.K-Key.Denot (Work g.row.K-Key.Denot)). phase_at (c.args.session - 1) x.phases) put
    ∙ put_there _ e.sessions c.stands.ensures c.args.session c.requires.session (Open call (Looks c.in-Ok.look)) in
    let on : Parts g.row.K-Key.Denot g.row.D.Denot = record e { sessions = c.replace_work.new.self } in
    let on_is = ap (λ (x : State g.row.K-Key.Denot (Work g.row.K-Key.Denot)). record e { sessions = x }) put in
    let back = ap (λ (x : Parts g.row.K-Key.Denot g.row.D.Denot). calling c.args.session call Rests x) on_is ∙ rested c.args.session e call call (Looks c.in-Ok.look) at in
    rw (← c.self.view_is) (on_ok_map _ _ c.read_on.result (λ goes. let it = goes c.in-Ok.look there in (
      ended_since c.args.session call (Looks c.in-Ok.look) e c.read_on.new.self (subst (λ (x : Parts g.row.K-Key.Denot g.row.D.Denot). HasEnded c.args.session call x c.read_on.new.self) on_is it.0),
      λ l. on_as _ _ _ _ _ _ c.args.session _ _ back (it.1 l),
    )) c.read_on.ensures.goes_on)

pub returns-in-Ok-clause-comes : goal.returns-in-Ok-clause-comes
returns-in-Ok-clause-comes g c =
    let e : Parts g.row.K-Key.Denot g.row.D.Denot =
    record { volume = c.self.inside.storage; sessions = c.self.inside.sessions; in_flight = c.self.inside.in_flight; checkpoint = c.self.inside.checkpoint } in
    let at = ap (λ (x : Parts g.row.K-Key.Denot g.row.D.Denot). phase_at (c.args.session - 1) x.sessions.phases) c.self.view_is ∙ c.requires.rests in
    let call = Search c.args.query.now in
    let put = replaced c.args.session call Rests (Looks c.in-Ok.look) e.sessions c.replace_work.new.self at c.replace_work.ensures.state in
    let there = ap (λ (x : State g.row.K-Key.Denot (Work g.row.K-Key.Denot)). phase_at (c.args.session - 1) x.phases) put
    ∙ put_there _ e.sessions c.stands.ensures c.args.session c.requires.session (Open call (Looks c.in-Ok.look)) in
    let on : Parts g.row.K-Key.Denot g.row.D.Denot = record e { sessions = c.replace_work.new.self } in
    let on_is = ap (λ (x : State g.row.K-Key.Denot (Work g.row.K-Key.Denot)). record e { sessions = x }) put in
    let back = ap (λ (x : Parts g.row.K-Key.Denot g.row.D.Denot). calling c.args.session call Rests x) on_is ∙ rested c.args.session e call call (Looks c.in-Ok.look) at in
    rw (← c.self.view_is) (err_map _ _ c.read_on.result (λ outcome comes.
    subst (λ (x : Parts g.row.K-Key.Denot g.row.D.Denot). SearchComes (is_node (format_of g.K.KeyClass)) (g.D.SectorDisk.state e.volume.shelf.disk) (g.D.SectorDisk.state c.read_on.new.self.volume.shelf.disk) c.args.session c.args.query.now x c.read_on.new.self outcome)
    back (comes c.in-Ok.look there)) c.read_on.ensures.comes)

pub returns-in-Ok-clause-moves : goal.returns-in-Ok-clause-moves
returns-in-Ok-clause-moves g c =
    let e : Parts g.row.K-Key.Denot g.row.D.Denot =
    record { volume = c.self.inside.storage; sessions = c.self.inside.sessions; in_flight = c.self.inside.in_flight; checkpoint = c.self.inside.checkpoint } in
    let at = ap (λ (x : Parts g.row.K-Key.Denot g.row.D.Denot). phase_at (c.args.session - 1) x.sessions.phases) c.self.view_is ∙ c.requires.rests in
    let call = Search c.args.query.now in
    let put = replaced c.args.session call Rests (Looks c.in-Ok.look) e.sessions c.replace_work.new.self at c.replace_work.ensures.state in
    let there = ap (λ (x : State g.row.K-Key.Denot (Work g.row.K-Key.Denot)). phase_at (c.args.session - 1) x.phases) put
    ∙ put_there _ e.sessions c.stands.ensures c.args.session c.requires.session (Open call (Looks c.in-Ok.look)) in
    let on : Parts g.row.K-Key.Denot g.row.D.Denot = record e { sessions = c.replace_work.new.self } in
    let on_is = ap (λ (x : State g.row.K-Key.Denot (Work g.row.K-Key.Denot)). record e { sessions = x }) put in
    let back = ap (λ (x : Parts g.row.K-Key.Denot g.row.D.Denot). calling c.args.session call Rests x) on_is ∙ rested c.args.session e call call (Looks c.in-Ok.look) at in
    rw (← c.self.view_is) (err_map _ _ c.read_on.result (λ outcome moves l.
    moves_as _ _ _ _ _ _ c.args.session _ _
    back (moves c.in-Ok.look there l)) c.read_on.ensures.moves)

pub returns-in-Err-clause-moves : goal.returns-in-Err-clause-moves
returns-in-Err-clause-moves g c l =
    let e : Parts g.row.K-Key.Denot g.row.D.Denot =
    record { volume = c.self.inside.storage; sessions = c.self.inside.sessions; in_flight = c.self.inside.in_flight; checkpoint = c.self.inside.checkpoint } in
    let at = ap (λ (x : Parts g.row.K-Key.Denot g.row.D.Denot). phase_at (c.args.session - 1) x.sessions.phases) c.self.view_is ∙ c.requires.rests in
    let works = ap (λ (x : Parts g.row.K-Key.Denot g.row.D.Denot). x.sessions.failed) c.self.view_is ∙ c.requires.works in
    rw (c.close.ensures.closed, c.close.ensures.outcome, ← c.self.view_is)
    (closes_moves _ (c.a_class_is_lawful.ensures l) _ _ _ (g.D.SectorDisk.state e.volume.shelf.disk) e c.stands.ensures c.args.session c.requires.session (Search c.args.query.now) Rests at works)
