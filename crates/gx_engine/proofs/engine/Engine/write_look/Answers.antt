use Rattle.std.proofs.Common.{◌≡◌, ◌∙◌, ap, sym, subst, inl, inr, refl, ◌-◌, ◌<◌, length, true, rules, arith}
use Rattle.gx_machine.specs.Keys.{keys}
use Rattle.gx_node.specs.Reading.{format_of, is_node}
use Rattle.gx_phases.specs.declared.phase.Phase.{Phase}
use Rattle.gx_phases.specs.declared.phase.Phase.TheVariants.{Open}
use Rattle.gx_phases.specs.States.{phase_at}
use Rattle.gx_tree.specs.declared.look.Look.{Look}
use Rattle.gx_engine.specs.declared.work.Work.{Work}
use Rattle.gx_engine.specs.declared.work.Work.TheVariants.{Looks, Rests}
use Rattle.gx_engine.specs.Looks.{HasEnded}
use Rattle.gx_engine.specs.Moves.{Moves, MovesOn, calling}
use Rattle.gx_engine.specs.Writes.{OnlyReads, WriteComes, write_events}
use Rattle.gx_engine.specs.States.{Parts}
use Rattle.gx_engine.proofs.AtWork.{as_kept, look_there}
use Rattle.gx_engine.proofs.writes.looks.Moves.{rests_yet}
use Rattle.gx_engine.proofs.Reading.{err_map, on_err_map, on_ok_map}
use Rattle.gx_pool.proofs.Bringing.{only_read_nothing}
use Rattle.gx_engine.proofs.Further.{moves_as, on_as}
use Rattle.gx_engine.proofs.engine.Engine.write_look.Goals as goal

pub look_on-requires-clause-looks : goal.look_on-requires-clause-looks
look_on-requires-clause-looks g c =
    let e : Parts g.row.K-Key.Denot g.row.D.Denot = c.args.self.now in
    let call = c.requires.looks.0 in
    let was = c.requires.looks.1 in
    let at = c.requires.looks.2.at in
    let seen = c.phase.ensures ∙ ap (λ (x : Parts g.row.K-Key.Denot g.row.D.Denot). phase_at (c.args.session - 1) x.sessions.phases) c.self.view_is in
    let look : Look g.row.K-Key.Denot = c.in-Some.look.now in
    let there = look_there (phase_at (c.args.session - 1) e.sessions.phases) c.phase.result.now call was c.in-Some.ensures.some.0 look seen at c.in-Some.ensures.some.1 in
    (call, look, there, (let some = c.if-is_done.false in let done = c.is_done.ensures in search (arith, rules)), tt)

pub begin_look-requires-clause-rests : goal.begin_look-requires-clause-rests
begin_look-requires-clause-rests g c =
    let e : Parts g.row.K-Key.Denot g.row.D.Denot =
    record { volume = c.self.inside.storage; sessions = c.self.inside.sessions; in_flight = c.self.inside.in_flight; checkpoint = c.self.inside.checkpoint } in
    let call = c.requires.looks.0 in
    let was = c.requires.looks.1 in
    let at = ap (λ (x : Parts g.row.K-Key.Denot g.row.D.Denot). phase_at (c.args.session - 1) x.sessions.phases) c.self.view_is ∙ c.requires.looks.2.at in
    let rest = rests_yet was c.requires.looks.2.looking (λ look looks. c.in-None.ensures.none call look (c.phase.ensures ∙ at ∙ ap (λ (w : Work g.row.K-Key.Denot). Open call w) looks)) in
    let there = c.requires.looks.2.at ∙ ap (λ (w : Work g.row.K-Key.Denot). Open call w) rest in
    (call, there)

pub returns-then-is_done-clause-ends : goal.returns-then-is_done-clause-ends
returns-then-is_done-clause-ends g c call was looks =
    let e : Parts g.row.K-Key.Denot g.row.D.Denot =
    record { volume = c.self.inside.storage; sessions = c.self.inside.sessions; in_flight = c.self.inside.in_flight; checkpoint = c.self.inside.checkpoint } in
    let at = ap (λ (x : Parts g.row.K-Key.Denot g.row.D.Denot). phase_at (c.args.session - 1) x.sessions.phases) c.self.view_is ∙ looks.at in
    let look : Look g.row.K-Key.Denot = c.in-Some.look.now in
    let there = look_there (phase_at (c.args.session - 1) e.sessions.phases) c.phase.result.now call was c.in-Some.ensures.some.0 look c.phase.ensures at c.in-Some.ensures.some.1 in
    let done : length look.stack.items ≡ 0 = (let is = c.if-is_done.true in let it = c.is_done.ensures in search (arith, rules)) in
    rw (← c.self.view_is) (record { look = look; done = done; at = there; only = sym (as_kept c.args.session e call (Looks look) there) })

pub returns-then-is_done-clause-reaches : goal.returns-then-is_done-clause-reaches
returns-then-is_done-clause-reaches g c call was looks l =
    inl refl

pub returns-else-is_done-clause-ends : goal.returns-else-is_done-clause-ends
returns-else-is_done-clause-ends g c =
    let e : Parts g.row.K-Key.Denot g.row.D.Denot = c.args.self.now in
    on_ok_map _ _ c.look_on.result (λ goes call was looks.
    let at = looks.at in
    let seen = c.phase.ensures ∙ ap (λ (x : Parts g.row.K-Key.Denot g.row.D.Denot). phase_at (c.args.session - 1) x.sessions.phases) c.self.view_is in
    let look : Look g.row.K-Key.Denot = c.in-Some.look.now in
    let there = look_there (phase_at (c.args.session - 1) e.sessions.phases) c.phase.result.now call was c.in-Some.ensures.some.0 look seen at c.in-Some.ensures.some.1 in
    (goes call look looks.writes there).0) c.look_on.ensures.goes_on

pub returns-else-is_done-clause-reaches : goal.returns-else-is_done-clause-reaches
returns-else-is_done-clause-reaches g c =
    let e : Parts g.row.K-Key.Denot g.row.D.Denot = c.args.self.now in
    on_ok_map _ _ c.look_on.result (λ goes call was looks l.
    let at = looks.at in
    let seen = c.phase.ensures ∙ ap (λ (x : Parts g.row.K-Key.Denot g.row.D.Denot). phase_at (c.args.session - 1) x.sessions.phases) c.self.view_is in
    let look : Look g.row.K-Key.Denot = c.in-Some.look.now in
    let there = look_there (phase_at (c.args.session - 1) e.sessions.phases) c.phase.result.now call was c.in-Some.ensures.some.0 look seen at c.in-Some.ensures.some.1 in
    let back = as_kept c.args.session e call (Looks look) there in
    inr (on_as _ _ _ _ _ _ c.args.session _ _ back ((goes call look looks.writes there).1 l))) c.look_on.ensures.goes_on

pub returns-else-is_done-clause-reads : goal.returns-else-is_done-clause-reads
returns-else-is_done-clause-reads g c =
    let e : Parts g.row.K-Key.Denot g.row.D.Denot = c.args.self.now in
    let call = c.requires.looks.0 in
    let was = c.requires.looks.1 in
    let at = c.requires.looks.2.at in
    let seen = c.phase.ensures ∙ ap (λ (x : Parts g.row.K-Key.Denot g.row.D.Denot). phase_at (c.args.session - 1) x.sessions.phases) c.self.view_is in
    let look : Look g.row.K-Key.Denot = c.in-Some.look.now in
    let there = look_there (phase_at (c.args.session - 1) e.sessions.phases) c.phase.result.now call was c.in-Some.ensures.some.0 look seen at c.in-Some.ensures.some.1 in
    on_err_map _ _ c.look_on.result (λ reads. reads call look there) c.look_on.ensures.reads

pub returns-else-is_done-clause-comes : goal.returns-else-is_done-clause-comes
returns-else-is_done-clause-comes g c =
    let e : Parts g.row.K-Key.Denot g.row.D.Denot = c.args.self.now in
    let k = keys g.K.Key.Ord.cmp g.K.Key.Shape.overlap g.K.Key.Shape.inside in
    err_map _ _ c.look_on.result (λ outcome comes call was looks.
    let at = looks.at in
    let seen = c.phase.ensures ∙ ap (λ (x : Parts g.row.K-Key.Denot g.row.D.Denot). phase_at (c.args.session - 1) x.sessions.phases) c.self.view_is in
    let look : Look g.row.K-Key.Denot = c.in-Some.look.now in
    let there = look_there (phase_at (c.args.session - 1) e.sessions.phases) c.phase.result.now call was c.in-Some.ensures.some.0 look seen at c.in-Some.ensures.some.1 in
    let back = as_kept c.args.session e call (Looks look) there in
    subst (λ (x : Parts g.row.K-Key.Denot g.row.D.Denot). WriteComes k (format_of g.K.KeyClass) (is_node (format_of g.K.KeyClass)) g.K.KeyClass.KEY (g.D.SectorDisk.state e.volume.shelf.disk) (g.D.SectorDisk.state c.look_on.new.self.volume.shelf.disk) c.args.session call x c.look_on.new.self outcome)
    back (comes call look looks.writes there)) c.look_on.ensures.comes

pub returns-else-is_done-clause-moves : goal.returns-else-is_done-clause-moves
returns-else-is_done-clause-moves g c =
    let e : Parts g.row.K-Key.Denot g.row.D.Denot = c.args.self.now in
    err_map _ _ c.look_on.result (λ outcome moves call was looks l.
    let at = looks.at in
    let seen = c.phase.ensures ∙ ap (λ (x : Parts g.row.K-Key.Denot g.row.D.Denot). phase_at (c.args.session - 1) x.sessions.phases) c.self.view_is in
    let look : Look g.row.K-Key.Denot = c.in-Some.look.now in
    let there = look_there (phase_at (c.args.session - 1) e.sessions.phases) c.phase.result.now call was c.in-Some.ensures.some.0 look seen at c.in-Some.ensures.some.1 in
    let back = as_kept c.args.session e call (Looks look) there in
    moves_as _ _ _ _ _ _ c.args.session _ _
    back (moves call look looks.writes there l)) c.look_on.ensures.moves

pub returns-in-None-clause-ends : goal.returns-in-None-clause-ends
returns-in-None-clause-ends g c =
    let e : Parts g.row.K-Key.Denot g.row.D.Denot =
    record { volume = c.self.inside.storage; sessions = c.self.inside.sessions; in_flight = c.self.inside.in_flight; checkpoint = c.self.inside.checkpoint } in
    on_ok_map _ _ c.begin_look.result (λ goes call was looks.
    let at = ap (λ (x : Parts g.row.K-Key.Denot g.row.D.Denot). phase_at (c.args.session - 1) x.sessions.phases) c.self.view_is ∙ looks.at in
    let rest = rests_yet was looks.looking (λ look looks. c.in-None.ensures.none call look (c.phase.ensures ∙ at ∙ ap (λ (w : Work g.row.K-Key.Denot). Open call w) looks)) in
    let there = looks.at ∙ ap (λ (w : Work g.row.K-Key.Denot). Open call w) rest in
    (goes call looks.writes there).0) c.begin_look.ensures.goes_on

pub returns-in-None-clause-reaches : goal.returns-in-None-clause-reaches
returns-in-None-clause-reaches g c =
    let e : Parts g.row.K-Key.Denot g.row.D.Denot =
    record { volume = c.self.inside.storage; sessions = c.self.inside.sessions; in_flight = c.self.inside.in_flight; checkpoint = c.self.inside.checkpoint } in
    on_ok_map _ _ c.begin_look.result (λ goes call was looks l.
    let at = ap (λ (x : Parts g.row.K-Key.Denot g.row.D.Denot). phase_at (c.args.session - 1) x.sessions.phases) c.self.view_is ∙ looks.at in
    let rest = rests_yet was looks.looking (λ look looks. c.in-None.ensures.none call look (c.phase.ensures ∙ at ∙ ap (λ (w : Work g.row.K-Key.Denot). Open call w) looks)) in
    let there = looks.at ∙ ap (λ (w : Work g.row.K-Key.Denot). Open call w) rest in
    inr ((goes call looks.writes there).1 l)) c.begin_look.ensures.goes_on

pub returns-in-None-clause-comes : goal.returns-in-None-clause-comes
returns-in-None-clause-comes g c =
    let e : Parts g.row.K-Key.Denot g.row.D.Denot =
    record { volume = c.self.inside.storage; sessions = c.self.inside.sessions; in_flight = c.self.inside.in_flight; checkpoint = c.self.inside.checkpoint } in
    err_map _ _ c.begin_look.result (λ outcome comes call was looks.
    let at = ap (λ (x : Parts g.row.K-Key.Denot g.row.D.Denot). phase_at (c.args.session - 1) x.sessions.phases) c.self.view_is ∙ looks.at in
    let rest = rests_yet was looks.looking (λ look looks. c.in-None.ensures.none call look (c.phase.ensures ∙ at ∙ ap (λ (w : Work g.row.K-Key.Denot). Open call w) looks)) in
    let there = looks.at ∙ ap (λ (w : Work g.row.K-Key.Denot). Open call w) rest in
    comes call looks.writes there) c.begin_look.ensures.comes

pub returns-in-None-clause-moves : goal.returns-in-None-clause-moves
returns-in-None-clause-moves g c =
    let e : Parts g.row.K-Key.Denot g.row.D.Denot =
    record { volume = c.self.inside.storage; sessions = c.self.inside.sessions; in_flight = c.self.inside.in_flight; checkpoint = c.self.inside.checkpoint } in
    err_map _ _ c.begin_look.result (λ outcome moves call was looks.
    let at = ap (λ (x : Parts g.row.K-Key.Denot g.row.D.Denot). phase_at (c.args.session - 1) x.sessions.phases) c.self.view_is ∙ looks.at in
    let rest = rests_yet was looks.looking (λ look looks. c.in-None.ensures.none call look (c.phase.ensures ∙ at ∙ ap (λ (w : Work g.row.K-Key.Denot). Open call w) looks)) in
    let there = looks.at ∙ ap (λ (w : Work g.row.K-Key.Denot). Open call w) rest in
    moves call looks.writes there) c.begin_look.ensures.moves

pub returns-then-is_done-clause-device : goal.returns-then-is_done-clause-device
returns-then-is_done-clause-device g c =
    rw (← c.self.view_is) (only_read_nothing (g.D.SectorDisk.state c.self.inside.storage.shelf.disk))
