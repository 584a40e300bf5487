use Rattle.std.proofs.Common.{◌≡◌, ◌∙◌, ap, sym, subst, inl, inr, refl, ◌-◌, ◌<◌, length, true, false, rules, arith}
use Rattle.gx_machine.specs.declared.call.Call.TheVariants.{Search}
use Rattle.gx_node.specs.Reading.{format_of, is_node}
use Rattle.gx_phases.specs.declared.phase.Phase.{Phase}
use Rattle.gx_phases.specs.declared.phase.Phase.TheVariants.{Open}
use Rattle.gx_phases.specs.States.{phase_at}
use Rattle.gx_tree.specs.declared.look.Look.{Look}
use Rattle.gx_engine.specs.declared.work.Work.{Work}
use Rattle.gx_engine.specs.declared.work.Work.TheVariants.{Looks, Rests}
use Rattle.gx_engine.specs.Looks.{HasEnded, is_at_rest}
use Rattle.gx_engine.specs.Moves.{Moves, MovesOn, calling}
use Rattle.gx_engine.specs.Searches.{SearchComes, search_events}
use Rattle.gx_engine.specs.States.{Parts}
use Rattle.gx_engine.proofs.AtWork.{as_kept, look_there, rests_there}
use Rattle.gx_engine.proofs.searches.Moves.{no_search}
use Rattle.gx_engine.proofs.Reading.{err_map, on_ok_map}
use Rattle.gx_pool.proofs.Bringing.{only_read_nothing}
use Rattle.gx_engine.proofs.Further.{moves_as, on_as}
use Rattle.gx_engine.proofs.engine.Engine.search_look.Goals as goal

pub read_on-requires-clause-looks : goal.read_on-requires-clause-looks
read_on-requires-clause-looks g c =
    let e : Parts g.row.K-Key.Denot g.row.D.Denot = c.args.self.now in
    let call = Search c.args.query.now in
    let was = c.requires.searches.0 in
    let at = c.requires.searches.1 in
    let seen = c.phase-phase.ensures ∙ ap (λ (x : Parts g.row.K-Key.Denot g.row.D.Denot). phase_at (c.args.session - 1) x.sessions.phases) c.self.view_is in
    let look : Look g.row.K-Key.Denot = c.in-Some.look.now in
    let there = look_there (phase_at (c.args.session - 1) e.sessions.phases) c.phase-phase.result.now call was c.in-Some.ensures.some.0 look seen at c.in-Some.ensures.some.1 in
    (look, there, (let some = c.if-is_done.false in let done = c.is_done.ensures in search (arith, rules)), tt)

pub begin_search-requires-clause-rests : goal.begin_search-requires-clause-rests
begin_search-requires-clause-rests g c =
    let e : Parts g.row.K-Key.Denot g.row.D.Denot = c.args.self.now in
    let call = Search c.args.query.now in
    let was = c.requires.searches.0 in
    let at = c.requires.searches.1 in
    let seen = c.phase-phase.ensures ∙ ap (λ (x : Parts g.row.K-Key.Denot g.row.D.Denot). phase_at (c.args.session - 1) x.sessions.phases) c.self.view_is in
    let rests : is_at_rest (phase_at (c.args.session - 1) e.sessions.phases) ≡ true = ap (λ (p : Phase g.row.K-Key.Denot (Work g.row.K-Key.Denot)). is_at_rest p) (sym seen) ∙ sym c.is_at_rest.ensures ∙ c.if-is_at_rest.true in
    rests_there (phase_at (c.args.session - 1) e.sessions.phases) call was at rests

pub returns-then-is_done-clause-ends : goal.returns-then-is_done-clause-ends
returns-then-is_done-clause-ends g c =
    let e : Parts g.row.K-Key.Denot g.row.D.Denot =
    record { volume = c.self.inside.storage; sessions = c.self.inside.sessions; in_flight = c.self.inside.in_flight; checkpoint = c.self.inside.checkpoint } in
    let call = Search c.args.query.now in
    let was = c.requires.searches.0 in
    let at = ap (λ (x : Parts g.row.K-Key.Denot g.row.D.Denot). phase_at (c.args.session - 1) x.sessions.phases) c.self.view_is ∙ c.requires.searches.1 in
    let look : Look g.row.K-Key.Denot = c.in-Some.look.now in
    let there = look_there (phase_at (c.args.session - 1) e.sessions.phases) c.phase-phase.result.now call was c.in-Some.ensures.some.0 look c.phase-phase.ensures at c.in-Some.ensures.some.1 in
    let done : length look.stack.items ≡ 0 = (let is = c.if-is_done.true in let it = c.is_done.ensures in search (arith, rules)) in
    rw (← c.self.view_is) (record { look = look; done = done; at = there; only = sym (as_kept c.args.session e call (Looks look) there) })

pub returns-then-is_done-clause-reaches : goal.returns-then-is_done-clause-reaches
returns-then-is_done-clause-reaches g c l =
    inl refl

pub returns-else-is_done-clause-ends : goal.returns-else-is_done-clause-ends
returns-else-is_done-clause-ends g c =
    let e : Parts g.row.K-Key.Denot g.row.D.Denot = c.args.self.now in
    let call = Search c.args.query.now in
    let was = c.requires.searches.0 in
    let at = c.requires.searches.1 in
    let seen = c.phase-phase.ensures ∙ ap (λ (x : Parts g.row.K-Key.Denot g.row.D.Denot). phase_at (c.args.session - 1) x.sessions.phases) c.self.view_is in
    let look : Look g.row.K-Key.Denot = c.in-Some.look.now in
    let there = look_there (phase_at (c.args.session - 1) e.sessions.phases) c.phase-phase.result.now call was c.in-Some.ensures.some.0 look seen at c.in-Some.ensures.some.1 in
    on_ok_map _ _ c.read_on.result (λ goes. (goes look there).0) c.read_on.ensures.goes_on

pub returns-else-is_done-clause-reaches : goal.returns-else-is_done-clause-reaches
returns-else-is_done-clause-reaches g c =
    let e : Parts g.row.K-Key.Denot g.row.D.Denot = c.args.self.now in
    let call = Search c.args.query.now in
    let was = c.requires.searches.0 in
    let at = c.requires.searches.1 in
    let seen = c.phase-phase.ensures ∙ ap (λ (x : Parts g.row.K-Key.Denot g.row.D.Denot). phase_at (c.args.session - 1) x.sessions.phases) c.self.view_is in
    let look : Look g.row.K-Key.Denot = c.in-Some.look.now in
    let there = look_there (phase_at (c.args.session - 1) e.sessions.phases) c.phase-phase.result.now call was c.in-Some.ensures.some.0 look seen at c.in-Some.ensures.some.1 in
    let back = as_kept c.args.session e call (Looks look) there in
    on_ok_map _ _ c.read_on.result (λ goes l.
    inr (on_as _ _ _ _ _ _ c.args.session _ _ back ((goes look there).1 l))) c.read_on.ensures.goes_on

pub returns-else-is_done-clause-comes : goal.returns-else-is_done-clause-comes
returns-else-is_done-clause-comes g c =
    let e : Parts g.row.K-Key.Denot g.row.D.Denot = c.args.self.now in
    let call = Search c.args.query.now in
    let was = c.requires.searches.0 in
    let at = c.requires.searches.1 in
    let seen = c.phase-phase.ensures ∙ ap (λ (x : Parts g.row.K-Key.Denot g.row.D.Denot). phase_at (c.args.session - 1) x.sessions.phases) c.self.view_is in
    let look : Look g.row.K-Key.Denot = c.in-Some.look.now in
    let there = look_there (phase_at (c.args.session - 1) e.sessions.phases) c.phase-phase.result.now call was c.in-Some.ensures.some.0 look seen at c.in-Some.ensures.some.1 in
    let back = as_kept c.args.session e call (Looks look) there in
    err_map _ _ c.read_on.result (λ outcome comes.
    subst (λ (x : Parts g.row.K-Key.Denot g.row.D.Denot). SearchComes (is_node (format_of g.K.KeyClass)) (g.D.SectorDisk.state e.volume.shelf.disk) (g.D.SectorDisk.state c.read_on.new.self.volume.shelf.disk) c.args.session c.args.query.now x c.read_on.new.self outcome)
    back (comes look there)) c.read_on.ensures.comes

pub returns-else-is_done-clause-moves : goal.returns-else-is_done-clause-moves
returns-else-is_done-clause-moves g c =
    let e : Parts g.row.K-Key.Denot g.row.D.Denot = c.args.self.now in
    let call = Search c.args.query.now in
    let was = c.requires.searches.0 in
    let at = c.requires.searches.1 in
    let seen = c.phase-phase.ensures ∙ ap (λ (x : Parts g.row.K-Key.Denot g.row.D.Denot). phase_at (c.args.session - 1) x.sessions.phases) c.self.view_is in
    let look : Look g.row.K-Key.Denot = c.in-Some.look.now in
    let there = look_there (phase_at (c.args.session - 1) e.sessions.phases) c.phase-phase.result.now call was c.in-Some.ensures.some.0 look seen at c.in-Some.ensures.some.1 in
    let back = as_kept c.args.session e call (Looks look) there in
    err_map _ _ c.read_on.result (λ outcome moves l.
    moves_as _ _ _ _ _ _ c.args.session _ _
    back (moves look there l)) c.read_on.ensures.moves

pub returns-then-is_at_rest-clause-ends : goal.returns-then-is_at_rest-clause-ends
returns-then-is_at_rest-clause-ends g c =
    on_ok_map _ _ c.begin_search.result (λ ends. ends.0) c.begin_search.ensures.ends

pub returns-then-is_at_rest-clause-reaches : goal.returns-then-is_at_rest-clause-reaches
returns-then-is_at_rest-clause-reaches g c =
    on_ok_map _ _ c.begin_search.result (λ ends l. inr (ends.1 l)) c.begin_search.ensures.ends

pub returns-else-is_at_rest-clause-moves : goal.returns-else-is_at_rest-clause-moves
returns-else-is_at_rest-clause-moves g c l =
    let e : Parts g.row.K-Key.Denot g.row.D.Denot =
    record { volume = c.self.inside.storage; sessions = c.self.inside.sessions; in_flight = c.self.inside.in_flight; checkpoint = c.self.inside.checkpoint } in
    let call = Search c.args.query.now in
    let was = c.requires.searches.0 in
    let at = ap (λ (x : Parts g.row.K-Key.Denot g.row.D.Denot). phase_at (c.args.session - 1) x.sessions.phases) c.self.view_is ∙ c.requires.searches.1 in
    let stirs = ap (λ (p : Phase g.row.K-Key.Denot (Work g.row.K-Key.Denot)). is_at_rest p) (sym c.phase-phase.ensures) ∙ sym c.is_at_rest.ensures ∙ c.if-is_at_rest.false in
    rw (← c.self.view_is)
    (no_search _ (c.a_class_is_lawful.ensures l) _ _ _ _ _ e c.stands.ensures c.args.session c.requires.session c.args.query.now was at
    (λ rests. (let is : is_at_rest (Open call Rests) ≡ false = ap (λ (w : Work g.row.K-Key.Denot). is_at_rest (Open call w)) (sym rests) ∙ ap (λ (p : Phase g.row.K-Key.Denot (Work g.row.K-Key.Denot)). is_at_rest p) (sym at) ∙ stirs in let no : true ≡ false = is in cc))
    (λ look looks. c.in-None.ensures.none call look (c.phase-phase.ensures ∙ at ∙ ap (λ (w : Work g.row.K-Key.Denot). Open call w) looks)) _ _ _)

pub returns-then-is_done-clause-device : goal.returns-then-is_done-clause-device
returns-then-is_done-clause-device g c =
    rw (← c.self.view_is) (only_read_nothing (g.D.SectorDisk.state c.self.inside.storage.shelf.disk))
