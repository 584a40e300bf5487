use Rattle.std.proofs.Common.{◌≡◌, ◌∙◌, ap, sym, refl, subst, ◌-◌, ◌<◌, length, List, arith}
use Rattle.gx_machine.specs.Keys.{keys}
use Rattle.gx_node.specs.Reach.{TraversalItem}
use Rattle.gx_node.specs.Reading.{format_of, is_node}
use Rattle.gx_phases.specs.declared.phase.Phase.{Phase}
use Rattle.gx_phases.specs.declared.phase.Phase.TheVariants.{Open}
use Rattle.gx_phases.specs.Moves.{is_open}
use Rattle.gx_phases.specs.States.{State, phase_at}
use Rattle.gx_engine.specs.declared.work.Work.{Work}
use Rattle.gx_engine.specs.declared.work.Work.TheVariants.{Looks, Rests}
use Rattle.gx_engine.specs.Looks.{HasEnded, IsFirst}
use Rattle.gx_engine.specs.Moves.{Moves, MovesOn, calling}
use Rattle.gx_engine.specs.States.{Parts}
use Rattle.gx_engine.specs.Writes.{WriteComes, only_read, write_events}
use Rattle.gx_engine.proofs.AtWork.{ended_since, reads_of, rested}
use Rattle.gx_engine.proofs.LookMoves.{closes_moves, put_there, replaced, same_events}
use Rattle.gx_engine.proofs.Reading.{err_map, on_err_map, on_ok_map}
use Rattle.gx_engine.proofs.writes.looks.Moves.{memory_told}
use Rattle.gx_engine.proofs.Further.{moves_as, on_as}
use Rattle.gx_engine.proofs.engine.Engine.begin_look.Goals as goal

pub look_on-requires-clause-looks : goal.look_on-requires-clause-looks
look_on-requires-clause-looks g c =
    let call = c.requires.rests.0 in
    let e : Parts g.row.K-Key.Denot g.row.D.Denot =
    record { volume = c.self.inside.storage; sessions = c.self.inside.sessions; in_flight = c.self.inside.in_flight; checkpoint = c.self.inside.checkpoint } in
    let at = ap (λ (x : Parts g.row.K-Key.Denot g.row.D.Denot). phase_at (c.args.session - 1) x.sessions.phases) c.self.view_is ∙ c.requires.rests.1 in
    let put = replaced c.args.session call Rests (Looks c.in-Ok.look) e.sessions c.replace_work.new.self at c.replace_work.ensures.state in
    let there = ap (λ (x : State g.row.K-Key.Denot (Work g.row.K-Key.Denot)). phase_at (c.args.session - 1) x.phases) put
    ∙ put_there _ e.sessions c.stands.ensures c.args.session c.requires.session (Open call (Looks c.in-Ok.look)) in
    let first = subst (λ (x : Parts g.row.K-Key.Denot g.row.D.Denot). IsFirst x c.in-Ok.look) (sym c.self.view_is) c.in-Ok.ensures in
    (call, c.in-Ok.look, there, subst (λ (xs : List TraversalItem). 0 < length xs) (sym first.0) (omega arith), first)

pub returns-in-Ok-clause-goes_on : goal.returns-in-Ok-clause-goes_on
returns-in-Ok-clause-goes_on g c =
    rw (← c.self.view_is) (on_ok_map _ _ c.look_on.result (λ goes call writes rests.
    let e : Parts g.row.K-Key.Denot g.row.D.Denot =
    record { volume = c.self.inside.storage; sessions = c.self.inside.sessions; in_flight = c.self.inside.in_flight; checkpoint = c.self.inside.checkpoint } in
    let at = rests in
    let put = replaced c.args.session call Rests (Looks c.in-Ok.look) e.sessions c.replace_work.new.self at c.replace_work.ensures.state in
    let there = ap (λ (x : State g.row.K-Key.Denot (Work g.row.K-Key.Denot)). phase_at (c.args.session - 1) x.phases) put
    ∙ put_there _ e.sessions c.stands.ensures c.args.session c.requires.session (Open call (Looks c.in-Ok.look)) in
    let on : Parts g.row.K-Key.Denot g.row.D.Denot = record e { sessions = c.replace_work.new.self } in
    let on_is = ap (λ (x : State g.row.K-Key.Denot (Work g.row.K-Key.Denot)). record e { sessions = x }) put in
    let back = ap (λ (x : Parts g.row.K-Key.Denot g.row.D.Denot). calling c.args.session call Rests x) on_is ∙ rested c.args.session e call call (Looks c.in-Ok.look) at in
    let it = goes call c.in-Ok.look writes there in (
      ended_since c.args.session call (Looks c.in-Ok.look) e c.look_on.new.self (subst (λ (x : Parts g.row.K-Key.Denot g.row.D.Denot). HasEnded c.args.session call x c.look_on.new.self) on_is it.0),
      λ l. on_as _ _ _ _ _ _ c.args.session _ _ back (it.1 l),
    )) c.look_on.ensures.goes_on)

pub returns-in-Ok-clause-reads : goal.returns-in-Ok-clause-reads
returns-in-Ok-clause-reads g c =
    let call = c.requires.rests.0 in
    let e : Parts g.row.K-Key.Denot g.row.D.Denot =
    record { volume = c.self.inside.storage; sessions = c.self.inside.sessions; in_flight = c.self.inside.in_flight; checkpoint = c.self.inside.checkpoint } in
    let at = ap (λ (x : Parts g.row.K-Key.Denot g.row.D.Denot). phase_at (c.args.session - 1) x.sessions.phases) c.self.view_is ∙ c.requires.rests.1 in
    let put = replaced c.args.session call Rests (Looks c.in-Ok.look) e.sessions c.replace_work.new.self at c.replace_work.ensures.state in
    let there = ap (λ (x : State g.row.K-Key.Denot (Work g.row.K-Key.Denot)). phase_at (c.args.session - 1) x.phases) put
    ∙ put_there _ e.sessions c.stands.ensures c.args.session c.requires.session (Open call (Looks c.in-Ok.look)) in
    rw (← c.self.view_is) (on_err_map _ _ c.look_on.result (λ reads.
    reads call c.in-Ok.look there ∙ ap (λ (x : State g.row.K-Key.Denot (Work g.row.K-Key.Denot)). only_read (record e { sessions = x }) c.look_on.new.self) put) c.look_on.ensures.reads)

pub returns-in-Ok-clause-comes : goal.returns-in-Ok-clause-comes
returns-in-Ok-clause-comes g c =
    let k = keys g.K.Key.Ord.cmp g.K.Key.Shape.overlap g.K.Key.Shape.inside in
    rw (← c.self.view_is) (err_map _ _ c.look_on.result (λ outcome comes call writes rests.
    let e : Parts g.row.K-Key.Denot g.row.D.Denot =
    record { volume = c.self.inside.storage; sessions = c.self.inside.sessions; in_flight = c.self.inside.in_flight; checkpoint = c.self.inside.checkpoint } in
    let at = rests in
    let put = replaced c.args.session call Rests (Looks c.in-Ok.look) e.sessions c.replace_work.new.self at c.replace_work.ensures.state in
    let there = ap (λ (x : State g.row.K-Key.Denot (Work g.row.K-Key.Denot)). phase_at (c.args.session - 1) x.phases) put
    ∙ put_there _ e.sessions c.stands.ensures c.args.session c.requires.session (Open call (Looks c.in-Ok.look)) in
    let on : Parts g.row.K-Key.Denot g.row.D.Denot = record e { sessions = c.replace_work.new.self } in
    let on_is = ap (λ (x : State g.row.K-Key.Denot (Work g.row.K-Key.Denot)). record e { sessions = x }) put in
    let back = ap (λ (x : Parts g.row.K-Key.Denot g.row.D.Denot). calling c.args.session call Rests x) on_is ∙ rested c.args.session e call call (Looks c.in-Ok.look) at in
    subst (λ (x : Parts g.row.K-Key.Denot g.row.D.Denot). WriteComes k (format_of g.K.KeyClass) (is_node (format_of g.K.KeyClass)) g.K.KeyClass.KEY (g.D.SectorDisk.state e.volume.shelf.disk) (g.D.SectorDisk.state c.look_on.new.self.volume.shelf.disk) c.args.session call x c.look_on.new.self outcome)
    back (comes call c.in-Ok.look writes there)) c.look_on.ensures.comes)

pub returns-in-Ok-clause-moves : goal.returns-in-Ok-clause-moves
returns-in-Ok-clause-moves g c =
    rw (← c.self.view_is) (err_map _ _ c.look_on.result (λ outcome moves call writes rests l.
    let e : Parts g.row.K-Key.Denot g.row.D.Denot =
    record { volume = c.self.inside.storage; sessions = c.self.inside.sessions; in_flight = c.self.inside.in_flight; checkpoint = c.self.inside.checkpoint } in
    let at = rests in
    let put = replaced c.args.session call Rests (Looks c.in-Ok.look) e.sessions c.replace_work.new.self at c.replace_work.ensures.state in
    let there = ap (λ (x : State g.row.K-Key.Denot (Work g.row.K-Key.Denot)). phase_at (c.args.session - 1) x.phases) put
    ∙ put_there _ e.sessions c.stands.ensures c.args.session c.requires.session (Open call (Looks c.in-Ok.look)) in
    let on : Parts g.row.K-Key.Denot g.row.D.Denot = record e { sessions = c.replace_work.new.self } in
    let on_is = ap (λ (x : State g.row.K-Key.Denot (Work g.row.K-Key.Denot)). record e { sessions = x }) put in
    let back = ap (λ (x : Parts g.row.K-Key.Denot g.row.D.Denot). calling c.args.session call Rests x) on_is ∙ rested c.args.session e call call (Looks c.in-Ok.look) at in
    moves_as _ _ _ _ _ _ c.args.session _ _
    back (moves call c.in-Ok.look writes there l)) c.look_on.ensures.moves)

pub close-requires-clause-open : goal.close-requires-clause-open
close-requires-clause-open g c =
    ap (λ (p : Phase g.row.K-Key.Denot (Work g.row.K-Key.Denot)). is_open p) c.requires.rests.1

pub returns-in-Err-clause-reads : goal.returns-in-Err-clause-reads
returns-in-Err-clause-reads g c =
    let e : Parts g.row.K-Key.Denot g.row.D.Denot =
    record { volume = c.self.inside.storage; sessions = c.self.inside.sessions; in_flight = c.self.inside.in_flight; checkpoint = c.self.inside.checkpoint } in
    rw (c.close.ensures.closed, ← c.self.view_is) (reads_of e _ _ refl refl)

pub returns-in-Err-clause-comes : goal.returns-in-Err-clause-comes
returns-in-Err-clause-comes g c call writes rests =
    let e : Parts g.row.K-Key.Denot g.row.D.Denot =
    record { volume = c.self.inside.storage; sessions = c.self.inside.sessions; in_flight = c.self.inside.in_flight; checkpoint = c.self.inside.checkpoint } in
    let at = ap (λ (x : Parts g.row.K-Key.Denot g.row.D.Denot). phase_at (c.args.session - 1) x.sessions.phases) c.self.view_is ∙ rests in
    rw (c.close.ensures.closed, c.close.ensures.outcome, ← c.self.view_is) (record { work = Rests; at = at; looks = refl }, refl)

pub returns-in-Err-clause-moves : goal.returns-in-Err-clause-moves
returns-in-Err-clause-moves g c call writes rests l =
    let e : Parts g.row.K-Key.Denot g.row.D.Denot =
    record { volume = c.self.inside.storage; sessions = c.self.inside.sessions; in_flight = c.self.inside.in_flight; checkpoint = c.self.inside.checkpoint } in
    let at = ap (λ (x : Parts g.row.K-Key.Denot g.row.D.Denot). phase_at (c.args.session - 1) x.sessions.phases) c.self.view_is ∙ rests in
    let works = ap (λ (x : Parts g.row.K-Key.Denot g.row.D.Denot). x.sessions.failed) c.self.view_is ∙ c.requires.works in
    rw (c.close.ensures.closed, c.close.ensures.outcome, ← c.self.view_is)
    (same_events _ _ _ _ _ _ c.args.session e _ _ _ _ (memory_told c.args.session call)
    (closes_moves _ (c.a_class_is_lawful.ensures l) _ _ _ (g.D.SectorDisk.state e.volume.shelf.disk) e c.stands.ensures c.args.session c.requires.session call Rests at works))
