use Rattle.std.proofs.Common.{◌≡◌, ◌⊎◌, inl, inr, ◌≤◌, ◌-◌, ◌∙◌, ap, sym, subst, rules, refl}
use Rattle.gx_machine.specs.declared.call.Call.TheVariants.{Insert}
use Rattle.gx_machine.specs.Keys.{Members, keys}
use Rattle.gx_node.specs.Reading.{format_of, is_node}
use Rattle.gx_durable.specs.Classes.{class_of, known_at, reading_of}
use Rattle.gx_node.specs.declared.fault.StepFault.TheVariants.{Damaged, Pages}
use Rattle.gx_phases.specs.Moves.{failed_state}
use Rattle.gx_phases.specs.States.{IsKept, phase_at}
use Rattle.gx_store.specs.declared.fault.StoreFault.{StoreFault}
use Rattle.gx_record.specs.declared.sizes.TheConstants.{SPLIT_RECORD}
use Rattle.gx_storage.proofs.Recording.{AreNodes, nodes_of}
use Rattle.gx_engine.specs.declared.work.Work.TheVariants.{Descends}
use Rattle.gx_events.specs.declared.outcome.Outcome.TheVariants.{More}
use Rattle.gx_node.specs.declared.items.TheConstants.{MAX_ENTRIES}
use Rattle.gx_engine.specs.Moves.{Moves}
use Rattle.gx_engine.specs.Refusals.{IsRefused}
use Rattle.gx_engine.specs.States.{Parts}
use Rattle.gx_engine.specs.Writes.{AsksHere, HasNoneToSweep, IsOnlySwept, LeftFew, write_events}
use Rattle.gx_node.specs.Store.{tree_of}
use Rattle.gx_node.specs.Trees.{size}
use Rattle.gx_engine.specs.Sweeping.{is_held, node_shown, slots_room}
use Rattle.gx_engine.proofs.Serving.{flies_on}
use Rattle.gx_engine.proofs.DescentMoves.{full_leaf, none_removable, removable_again, said_again, swept_false, swept_true}
use Rattle.gx_engine.proofs.writes.descents.MakingRoom.{comes_more, never_swept, swept_moves, yet_comes}
use Rattle.gx_engine.proofs.writes.descents.ReadFirst.{comes_then, few_then, moves_then}
use Rattle.gx_engine.proofs.writes.descents.Stopping.{lost_comes, stopped_comes, stopped_moves}
use Rattle.gx_engine.proofs.SweepRoom.{sweep_asks}
use Rattle.gx_engine.proofs.UndoMoves.{why_pages}
use Rattle.gx_engine.proofs.Calling.{then_read}
use Rattle.gx_engine.proofs.Failing.{then_told, pages_told, quiet_told}
use Rattle.gx_node.specs.declared.fault.StepFault.{StepFault}
use Rattle.gx_node.specs.Owner.{step_fails}
use Rattle.gx_store.specs.Faults.{store_fails}
use Rattle.gx_engine.proofs.engine.Engine.make_room.Goals as goal

pub returns-in-Ok-true-clause-comes : goal.returns-in-Ok-true-clause-comes
returns-in-Ok-true-clause-comes g c entry at =
    let old : Parts g.row.K-Key.Denot g.row.D.Denot = c.args.self.now in
    let k = keys g.K.Key.Ord.cmp g.K.Key.Shape.overlap g.K.Key.Shape.inside in
    let state = g.D.SectorDisk.state in
    let shape : Members g.row.K-Key.Denot =
    record { partial_cmp = g.K.Key.PartialOrd.partial_cmp; eq = g.K.Key.PartialEq.eq; cmp = g.K.Key.Ord.cmp; overlap = g.K.Key.Shape.overlap; inside = g.K.Key.Shape.inside } in
    let has = swept_true (known_at shape g.K.ReadKeys.is_proper) (reading_of g.K.ReadKeys.said (format_of g.K.KeyClass)) (format_of g.K.KeyClass) (is_node (format_of g.K.KeyClass)) (state old.volume.shelf.disk) (state c.sweep_leaf.new.self.volume.shelf.disk) old.volume c.sweep_leaf.new.self.volume (is_held k old) c.args.item.page c.in-Ok-true.field-0 c.in-Ok-true.field-0-test c.in-Ok-true.ensures.sweeps in
    yet_comes (AsksHere k (format_of g.K.KeyClass) (state old.volume.shelf.disk) old c.args.item.page) (LeftFew (state old.volume.shelf.disk) old c.args.item.page × HasNoneToSweep k (format_of g.K.KeyClass) (state old.volume.shelf.disk) old c.args.item.page) (λ x y. IsOnlySwept k (format_of g.K.KeyClass) (state old.volume.shelf.disk) x c.args.item.page old y ⊎ HasNoneToSweep k (format_of g.K.KeyClass) (state old.volume.shelf.disk) old c.args.item.page) k (is_node (format_of g.K.KeyClass)) (state old.volume.shelf.disk) (state c.sweep_leaf.new.self.volume.shelf.disk) c.args.session (Insert entry) (Descends c.args.parent c.args.item) old c.sweep_leaf.new.self c.sweep_leaf.ensures.only has.logged.most at
    (inl (record { only = c.sweep_leaf.ensures.only; swept = has.swept }))

pub returns-in-Ok-true-clause-moves : goal.returns-in-Ok-true-clause-moves
returns-in-Ok-true-clause-moves g c entry at leaf l =
    let old : Parts g.row.K-Key.Denot g.row.D.Denot = c.args.self.now in
    let k = keys g.K.Key.Ord.cmp g.K.Key.Shape.overlap g.K.Key.Shape.inside in
    let state = g.D.SectorDisk.state in
    let kept = subst (λ (x : Parts g.row.K-Key.Denot g.row.D.Denot). IsKept k x.sessions) c.self.view_is c.stands.ensures in
    let shape : Members g.row.K-Key.Denot =
    record { partial_cmp = g.K.Key.PartialOrd.partial_cmp; eq = g.K.Key.PartialEq.eq; cmp = g.K.Key.Ord.cmp; overlap = g.K.Key.Shape.overlap; inside = g.K.Key.Shape.inside } in
    let has = swept_true (known_at shape g.K.ReadKeys.is_proper) (reading_of g.K.ReadKeys.said (format_of g.K.KeyClass)) (format_of g.K.KeyClass) (is_node (format_of g.K.KeyClass)) (state old.volume.shelf.disk) (state c.sweep_leaf.new.self.volume.shelf.disk) old.volume c.sweep_leaf.new.self.volume (is_held k old) c.args.item.page c.in-Ok-true.field-0 c.in-Ok-true.field-0-test c.in-Ok-true.ensures.sweeps in
    let nodes = subst (λ (x : Parts g.row.K-Key.Denot g.row.D.Denot). AreNodes (format_of g.K.KeyClass) (is_node (format_of g.K.KeyClass)) x.volume.shelf) c.self.view_is
    (nodes_of (format_of g.K.KeyClass) _ _ c.in_order.ensures) in
    subst (λ (x : Parts g.row.K-Key.Denot g.row.D.Denot). Moves (class_of shape g.K.ReadKeys.is_proper l) (reading_of g.K.ReadKeys.said (format_of g.K.KeyClass)) (format_of g.K.KeyClass) (is_node (format_of g.K.KeyClass))
    (state old.volume.shelf.disk) (state c.sweep_leaf.new.self.volume.shelf.disk) c.args.session old x More (write_events c.args.session (Insert entry) More)) (sym c.sweep_leaf.ensures.only)
    (swept_moves _ (c.a_class_is_lawful.ensures l) g.K.ReadKeys.said (format_of g.K.KeyClass) (is_node (format_of g.K.KeyClass)) (state old.volume.shelf.disk) (state c.sweep_leaf.new.self.volume.shelf.disk) old kept c.requires.works c.args.session c.requires.session c.requires.early entry c.args.parent c.args.item at
    c.sweep_leaf.new.self.volume has.logged.most nodes c.small_removals.ensures.removed has.slots has.taken (flies_on _ _ has.logged.logs) has.swept has.own (has.logged.keeps l))

pub returns-in-Ok-false-clause-comes : goal.returns-in-Ok-false-clause-comes
returns-in-Ok-false-clause-comes g c entry at =
    let old : Parts g.row.K-Key.Denot g.row.D.Denot = c.args.self.now in
    let k = keys g.K.Key.Ord.cmp g.K.Key.Shape.overlap g.K.Key.Shape.inside in
    let state = g.D.SectorDisk.state in
    let shape : Members g.row.K-Key.Denot =
    record { partial_cmp = g.K.Key.PartialOrd.partial_cmp; eq = g.K.Key.PartialEq.eq; cmp = g.K.Key.Ord.cmp; overlap = g.K.Key.Shape.overlap; inside = g.K.Key.Shape.inside } in
    let has = swept_false (known_at shape g.K.ReadKeys.is_proper) (reading_of g.K.ReadKeys.said (format_of g.K.KeyClass)) (format_of g.K.KeyClass) (is_node (format_of g.K.KeyClass)) (state old.volume.shelf.disk) (state c.sweep_leaf.new.self.volume.shelf.disk) old.volume c.sweep_leaf.new.self.volume (is_held k old) c.args.item.page c.in-Ok-false.field-0 c.in-Ok-false.field-0-test c.in-Ok-false.ensures.sweeps in
    let f = format_of g.K.KeyClass in
    let known = known_at shape g.K.ReadKeys.is_proper in
    let r = reading_of g.K.ReadKeys.said f in
    let d = state old.volume.shelf.disk in
    let m = state c.sweep_leaf.new.self.volume.shelf.disk in
    let e = state c.split_here.new.self.volume.shelf.disk in
    let page = c.args.item.page in
    let none : HasNoneToSweep k f d old page = λ steady. none_removable (is_held k old) (node_shown f d page old) (has.none steady) in
    let few = few_then k known r f (is_node f) (slots_room old.volume page has.slots) d m e c.args.session entry old c.sweep_leaf.new.self c.sweep_leaf.ensures.only has.unlogged has.same page in
    comes_then k known r f (is_node f) (slots_room old.volume page has.slots) d m e c.args.session entry old c.sweep_leaf.new.self c.sweep_leaf.ensures.only has.unlogged
    (AsksHere k f d old page) (LeftFew m c.sweep_leaf.new.self page) (LeftFew d old page × HasNoneToSweep k f d old page) (λ lacks. (few lacks, none))
    (λ x y. Unit {0}) (λ x y. IsOnlySwept k f d x page old y ⊎ HasNoneToSweep k f d old page) (λ y made. inr none)
    c.split_here.new.self c.split_here.result
    (comes_more k (is_node f) m e c.args.session (Insert entry) c.sweep_leaf.new.self c.split_here.new.self (λ size. size ≡ SPLIT_RECORD) (AsksHere k f d old page)
    (λ size is. inr is) (LeftFew m c.sweep_leaf.new.self page) (LeftFew m c.sweep_leaf.new.self page) (λ few. few) (λ x y. Unit {0}) (λ x y. Unit {0}) (λ made. made) c.split_here.result
    (c.split_here.ensures.comes entry (ap (λ (x : Parts g.row.K-Key.Denot g.row.D.Denot). phase_at (c.args.session - 1) x.sessions.phases) c.sweep_leaf.ensures.only ∙ at)))

pub returns-in-Ok-false-clause-moves : goal.returns-in-Ok-false-clause-moves
returns-in-Ok-false-clause-moves g c entry at leaf l bodies i h =
    let old : Parts g.row.K-Key.Denot g.row.D.Denot = c.args.self.now in
    let k = keys g.K.Key.Ord.cmp g.K.Key.Shape.overlap g.K.Key.Shape.inside in
    let state = g.D.SectorDisk.state in
    let shape : Members g.row.K-Key.Denot =
    record { partial_cmp = g.K.Key.PartialOrd.partial_cmp; eq = g.K.Key.PartialEq.eq; cmp = g.K.Key.Ord.cmp; overlap = g.K.Key.Shape.overlap; inside = g.K.Key.Shape.inside } in
    let has = swept_false (known_at shape g.K.ReadKeys.is_proper) (reading_of g.K.ReadKeys.said (format_of g.K.KeyClass)) (format_of g.K.KeyClass) (is_node (format_of g.K.KeyClass)) (state old.volume.shelf.disk) (state c.sweep_leaf.new.self.volume.shelf.disk) old.volume c.sweep_leaf.new.self.volume (is_held k old) c.args.item.page c.in-Ok-false.field-0 c.in-Ok-false.field-0-test c.in-Ok-false.ensures.sweeps in
    let un = has.unlogged in
    let f = format_of g.K.KeyClass in
    let steady = h.keeps.steady in
    moves_then (class_of shape g.K.ReadKeys.is_proper l) (c.a_class_is_lawful.ensures l) (reading_of g.K.ReadKeys.said f) f (is_node f) (state old.volume.shelf.disk) (state c.sweep_leaf.new.self.volume.shelf.disk) (state c.split_here.new.self.volume.shelf.disk) c.args.session old
    c.sweep_leaf.new.self c.sweep_leaf.ensures.only un.most un.log (un.since 0).goes_on.device (un.keeps l) c.split_here.new.self c.split_here.result (write_events c.args.session (Insert entry) c.split_here.result)
    (c.split_here.ensures.moves entry (ap (λ (x : Parts g.row.K-Key.Denot g.row.D.Denot). phase_at (c.args.session - 1) x.sessions.phases) c.sweep_leaf.ensures.only ∙ at)
    (λ still. said_again k f (state old.volume.shelf.disk) (state c.sweep_leaf.new.self.volume.shelf.disk) old c.sweep_leaf.new.self c.sweep_leaf.ensures.only un.most (has.same steady) c.args.item.page (λ n s. n ≤ size ((tree_of s).node c.args.item.page))
    (full_leaf (node_shown f (state old.volume.shelf.disk) c.args.item.page old) old.volume.most (leaf steady).1))
    (λ still. removable_again k f (state old.volume.shelf.disk) (state c.sweep_leaf.new.self.volume.shelf.disk) old c.sweep_leaf.new.self c.sweep_leaf.ensures.only un.most (has.same steady) c.args.item.page
    (none_removable (is_held k old) (node_shown f (state old.volume.shelf.disk) c.args.item.page old) (has.none steady))) l)
    bodies i h

pub returns-in-Err-Pages-clause-comes : goal.returns-in-Err-Pages-clause-comes
returns-in-Err-Pages-clause-comes g c entry at =
    let old : Parts g.row.K-Key.Denot g.row.D.Denot = c.args.self.now in
    let k = keys g.K.Key.Ord.cmp g.K.Key.Shape.overlap g.K.Key.Shape.inside in
    let state = g.D.SectorDisk.state in
    let did = c.in-Err-Pages.ensures.sweeps in
    let f = format_of g.K.KeyClass in
    let d = state old.volume.shelf.disk in
    let e = state c.sweep_leaf.new.self.volume.shelf.disk in
    let asks = sweep_asks (is_node f) d e f k old c.args.item.page c.sweep_leaf.new.self.volume.shelf c.in-Err-Pages.fault did.slots
    (λ no_room. did.taken (c.in-Err-Pages.field-0-is ∙ ap (λ (x : StoreFault). Pages x) no_room)) did.few
    (why_pages _ c.in-Err-Pages.field-0 c.in-Err-Pages.fault c.in-Err-Pages.field-0-is did.stops.why) in
    stopped_comes (AsksHere k (format_of g.K.KeyClass) (state old.volume.shelf.disk) old c.args.item.page) (LeftFew (state old.volume.shelf.disk) old c.args.item.page × HasNoneToSweep k (format_of g.K.KeyClass) (state old.volume.shelf.disk) old c.args.item.page) (λ x y. IsOnlySwept k (format_of g.K.KeyClass) (state old.volume.shelf.disk) x c.args.item.page old y ⊎ HasNoneToSweep k (format_of g.K.KeyClass) (state old.volume.shelf.disk) old c.args.item.page) k (is_node f) state old c.args.session entry c.sweep_leaf.new.self.volume did.stops.unlogged.most did.stops.unlogged.log did.stops.unlogged.imaged
    c.requires.early (λ page. (did.stops.unlogged.since page).same.stamp) asks.0 asks.1 asks.2 c.in-Err-Pages.fault asks.3
    c.refuse.new.self c.refuse.result
    (subst (λ (x : Parts g.row.K-Key.Denot g.row.D.Denot). IsRefused c.in-Err-Pages.fault x c.refuse.new.self c.refuse.result) c.sweep_leaf.ensures.only
    (subst (λ (n : StoreFault). IsRefused n c.sweep_leaf.new.self c.refuse.new.self c.refuse.result) c.in-Err-Pages.fault-is c.refuse.ensures.refused))

pub returns-in-Err-Pages-clause-moves : goal.returns-in-Err-Pages-clause-moves
returns-in-Err-Pages-clause-moves g c entry at leaf =
    let old : Parts g.row.K-Key.Denot g.row.D.Denot = c.args.self.now in
    let k = keys g.K.Key.Ord.cmp g.K.Key.Shape.overlap g.K.Key.Shape.inside in
    let state = g.D.SectorDisk.state in
    let kept = subst (λ (x : Parts g.row.K-Key.Denot g.row.D.Denot). IsKept k x.sessions) c.self.view_is c.stands.ensures in
    let did = c.in-Err-Pages.ensures.sweeps in
    let un = did.stops.unlogged in
    λ l. stopped_moves _ (c.a_class_is_lawful.ensures l) _ _ _ state old kept c.requires.works c.args.session c.requires.session entry _ at
    c.sweep_leaf.new.self.volume un.most un.log (un.since 0).goes_on.device (un.keeps l)
    (slots_room old.volume c.args.item.page did.slots) c.in-Err-Pages.fault (why_pages _ c.in-Err-Pages.field-0 c.in-Err-Pages.fault c.in-Err-Pages.field-0-is did.stops.why)
    c.refuse.new.self c.refuse.result
    (subst (λ (x : Parts g.row.K-Key.Denot g.row.D.Denot). IsRefused c.in-Err-Pages.fault x c.refuse.new.self c.refuse.result) c.sweep_leaf.ensures.only
    (subst (λ (n : StoreFault). IsRefused n c.sweep_leaf.new.self c.refuse.new.self c.refuse.result) c.in-Err-Pages.fault-is c.refuse.ensures.refused))

pub returns-in-Err-Damaged-clause-comes : goal.returns-in-Err-Damaged-clause-comes
returns-in-Err-Damaged-clause-comes g c entry at =
    let old : Parts g.row.K-Key.Denot g.row.D.Denot = c.args.self.now in
    let k = keys g.K.Key.Ord.cmp g.K.Key.Shape.overlap g.K.Key.Shape.inside in
    let state = g.D.SectorDisk.state in
    let un = c.in-Err-Damaged.ensures.sweeps.stops.unlogged in
    lost_comes (AsksHere k (format_of g.K.KeyClass) (state old.volume.shelf.disk) old c.args.item.page) (LeftFew (state old.volume.shelf.disk) old c.args.item.page × HasNoneToSweep k (format_of g.K.KeyClass) (state old.volume.shelf.disk) old c.args.item.page) (λ x y. IsOnlySwept k (format_of g.K.KeyClass) (state old.volume.shelf.disk) x c.args.item.page old y ⊎ HasNoneToSweep k (format_of g.K.KeyClass) (state old.volume.shelf.disk) old c.args.item.page) k (is_node (format_of g.K.KeyClass)) state old c.args.session entry c.sweep_leaf.new.self.volume un.most un.log un.imaged c.break_off.new.self c.break_off.result c.break_off.ensures.outcome
    (c.break_off.ensures.failed ∙ ap (λ (x : Parts g.row.K-Key.Denot g.row.D.Denot). record x { sessions = failed_state x.sessions }) c.sweep_leaf.ensures.only)

pub returns-in-Err-Damaged-clause-moves : goal.returns-in-Err-Damaged-clause-moves
returns-in-Err-Damaged-clause-moves g c entry at leaf l =
    let old : Parts g.row.K-Key.Denot g.row.D.Denot = c.args.self.now in
    let k = keys g.K.Key.Ord.cmp g.K.Key.Shape.overlap g.K.Key.Shape.inside in
    let state = g.D.SectorDisk.state in
    let kept = subst (λ (x : Parts g.row.K-Key.Denot g.row.D.Denot). IsKept k x.sessions) c.self.view_is c.stands.ensures in
    let did = c.in-Err-Damaged.ensures.sweeps in
    let un = did.stops.unlogged in
    let damaged : c.in-Err-Damaged.field-0 ≡ Damaged = search rules in
    let fits = subst (λ (x : Parts g.row.K-Key.Denot g.row.D.Denot). x.volume.most ≤ MAX_ENTRIES) c.self.view_is c.most.ensures.few in
    never_swept _ (c.a_class_is_lawful.ensures l) g.K.ReadKeys.said (format_of g.K.KeyClass) (is_node (format_of g.K.KeyClass)) (state old.volume.shelf.disk) _
    old kept c.requires.works c.args.session c.requires.session c.requires.early entry c.args.parent c.args.item at c.sweep_leaf.new.self.volume un.most
    fits (λ steady. (leaf steady).0) (λ steady. did.damaged steady damaged) c.break_off.new.self c.break_off.result _

pub returns-in-Ok-false-clause-device : goal.returns-in-Ok-false-clause-device
returns-in-Ok-false-clause-device g c = then_read g.D.SectorDisk.state c.args.self.now c.sweep_leaf.new.self c.split_here.new.self c.sweep_leaf.ensures.device c.split_here.ensures.device

pub returns-in-Ok-false-clause-told : goal.returns-in-Ok-false-clause-told
returns-in-Ok-false-clause-told g c = then_told g.D.SectorDisk.state c.args.self.now c.sweep_leaf.new.self c.split_here.new.self c.split_here.result c.in-Ok-false.ensures.told c.split_here.ensures.told

pub returns-in-Err-Pages-clause-told : goal.returns-in-Err-Pages-clause-told
returns-in-Err-Pages-clause-told g c =
    pages_told g.D.SectorDisk.state c.args.self.now c.sweep_leaf.new.self c.refuse.new.self c.in-Err-Pages.field-0 c.in-Err-Pages.fault c.refuse.result c.in-Err-Pages.field-0-is c.in-Err-Pages.ensures.told
    c.refuse.ensures.volume (c.refuse.ensures.told ∙ ap (λ (n : StoreFault). store_fails n) c.in-Err-Pages.fault-is)

pub returns-in-Err-Damaged-clause-told : goal.returns-in-Err-Damaged-clause-told
returns-in-Err-Damaged-clause-told g c =
    let damaged : c.in-Err-Damaged.field-0 ≡ Damaged = search rules in
    quiet_told g.D.SectorDisk.state c.args.self.now c.sweep_leaf.new.self c.break_off.new.self (step_fails store_fails c.in-Err-Damaged.field-0) c.break_off.result _ (ap (λ (x : StepFault StoreFault). step_fails store_fails x) damaged)
    c.in-Err-Damaged.ensures.told (ap (λ (x : Parts g.row.K-Key.Denot g.row.D.Denot). x.volume) c.break_off.ensures.failed) c.break_off.ensures.outcome refl
