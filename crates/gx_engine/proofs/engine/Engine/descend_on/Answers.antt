use Rattle.std.proofs.Common.{◌≡◌, ◌⊎◌, ◌≤◌, length, ◌-◌, ◌∙◌, ap, refl, subst, rules}
use Rattle.gx_machine.specs.declared.call.Call.TheVariants.{Insert}
use Rattle.gx_machine.specs.Keys.{Members, keys}
use Rattle.gx_node.specs.Reading.{format_of, is_node}
use Rattle.gx_durable.specs.Classes.{class_of, known_at, reading_of}
use Rattle.gx_node.specs.declared.fault.StepFault.TheVariants.{Damaged}
use Rattle.gx_phases.specs.Moves.{failed_state}
use Rattle.gx_phases.specs.States.{IsKept, phase_at}
use Rattle.gx_store.specs.declared.fault.StoreFault.{StoreFault}
use Rattle.gx_record.specs.declared.sizes.TheConstants.{SPLIT_RECORD}
use Rattle.gx_engine.specs.declared.work.Work.TheVariants.{Descends}
use Rattle.gx_engine.specs.Moves.{Moves, calling}
use Rattle.gx_engine.specs.Refusals.{IsRefused}
use Rattle.gx_engine.specs.States.{Parts}
use Rattle.gx_engine.specs.Writes.{AsksHere, AsksRoom, HasNoneToSweep, IsFull, IsOnlySwept, LacksPages, LeftFew, MakesRoom, write_events}
use Rattle.gx_tree.specs.declared.descent.Descended.TheVariants.{Again, Down, FullInner, FullLeaf, Leaf, Widened}
use Rattle.gx_tree.specs.declared.descent.Way.TheVariants.{Add}
use Rattle.gx_tree.specs.declared.descent.Descended.{Descended}
use Rattle.gx_tree.specs.Descending.{WayAt, next_of}
use Rattle.gx_node.specs.Store.{tree_of}
use Rattle.gx_node.specs.Trees.{size}
use Rattle.gx_store.specs.State.{IsInOrder, IsSteady}
use Rattle.gx_storage.specs.Imaged.{is_imaged}
use Rattle.gx_storage.specs.Small.{add_room, widen_room}
use Rattle.gx_storage.proofs.Descending.{IsJoin}
use Rattle.gx_storage.proofs.Recording.{nodes_of}
use Rattle.gx_engine.specs.Sweeping.{is_held, node_shown}
use Rattle.gx_engine.proofs.Serving.{flies_on}
use Rattle.gx_engine.proofs.DescentMoves.{full_inner, full_leaf, inner_removable, never_stepped, removable_again, said_again, stepped_as}
use Rattle.gx_engine.proofs.writes.descents.Moves.{again_moves, down_moves, widened_moves}
use Rattle.gx_engine.proofs.SweepRoom.{asks_again}
use Rattle.gx_engine.proofs.writes.descents.MakingRoom.{asks_add, asks_split, asks_sweep, asks_widen, comes_more, lacks_pages, on_comes, on_is, to_split, widen_is_short}
use Rattle.gx_engine.proofs.RoomMade.{again_made, down_made, inner_made, lacks_before, made_before, room_made, widened_made}
use Rattle.gx_engine.proofs.writes.descents.ReadFirst.{comes_then, few_then, moves_then}
use Rattle.gx_engine.proofs.writes.descents.Stopping.{lost_comes, stopped_comes, stopped_moves}
use Rattle.gx_engine.proofs.UndoMoves.{why_pages}
use Rattle.gx_engine.proofs.Calling.{then_read}
use Rattle.gx_engine.proofs.Failing.{then_told, pages_told, quiet_told}
use Rattle.gx_node.specs.declared.fault.StepFault.{StepFault}
use Rattle.gx_node.specs.Owner.{step_fails}
use Rattle.gx_store.specs.Faults.{store_fails}
use Rattle.gx_engine.proofs.engine.Engine.descend_on.Goals as goal

pub returns-in-Widened-clause-comes : goal.returns-in-Widened-clause-comes
returns-in-Widened-clause-comes g c =
    let old : Parts g.row.K-Key.Denot g.row.D.Denot = c.args.self.now in
    let k = keys g.K.Key.Ord.cmp g.K.Key.Shape.overlap g.K.Key.Shape.inside in
    let state = g.D.SectorDisk.state in
    let shape : Members g.row.K-Key.Denot =
    record { partial_cmp = g.K.Key.PartialOrd.partial_cmp; eq = g.K.Key.PartialEq.eq; cmp = g.K.Key.Ord.cmp; overlap = g.K.Key.Shape.overlap; inside = g.K.Key.Shape.inside } in
    let f = format_of g.K.KeyClass in
    let has = stepped_as (known_at shape g.K.ReadKeys.is_proper) (reading_of g.K.ReadKeys.said f) f (is_node f) (state old.volume.shelf.disk) (state c.step_down.new.self.volume.shelf.disk) old.volume c.step_down.new.self.volume g.K.KeyClass.cost g.K.KeyClass.joined g.K.KeyClass.spelling g.K.KeyClass.KEY c.args.item c.args.entry.key c.in-Ok.did (Widened c.in-Widened.field-0 c.in-Widened.field-1 c.in-Widened.field-2) c.in-Widened.is c.in-Ok.ensures.step in
    let there = c.go_down.ensures.there c.in-Widened.field-0 (ap (λ (x : Descended g.row.K-Key.Denot). next_of x) c.in-Widened.is) (Insert c.args.entry) (Descends c.args.parent c.args.item) (ap (λ (x : Parts g.row.K-Key.Denot g.row.D.Denot). phase_at (c.args.session - 1) x.sessions.phases) c.step_down.ensures.only ∙ c.requires.descends) in
    on_comes c.args.session (Insert c.args.entry) c.args.item.page c.in-Widened.field-0 old c.step_down.new.self c.go_down.new.self c.step_down.ensures.only there c.go_down.result c.go_down.ensures.outcome
    (AsksRoom k f g.K.KeyClass.KEY (state old.volume.shelf.disk) c.args.session (Insert c.args.entry) old) (LacksPages k f (state old.volume.shelf.disk) c.args.session (Insert c.args.entry) old) (MakesRoom k f (state old.volume.shelf.disk) c.args.session (Insert c.args.entry) old) k (is_node f) state has.logged.most
    (widened_made k f (state old.volume.shelf.disk) c.args.session (Insert c.args.entry) old (state c.step_down.new.self.volume.shelf.disk)
    (calling c.args.session (Insert c.args.entry) (Descends c.args.item.page c.in-Widened.field-0) (record old { volume = c.step_down.new.self.volume })) c.args.parent c.args.item c.requires.descends g.K.KeyClass.cost g.K.KeyClass.joined c.args.entry.key c.in-Widened.field-0 c.in-Widened.field-1 c.in-Widened.field-2 has.steps)

pub returns-in-Widened-clause-moves : goal.returns-in-Widened-clause-moves
returns-in-Widened-clause-moves g c l =
    let old : Parts g.row.K-Key.Denot g.row.D.Denot = c.args.self.now in
    let k = keys g.K.Key.Ord.cmp g.K.Key.Shape.overlap g.K.Key.Shape.inside in
    let state = g.D.SectorDisk.state in
    let shape : Members g.row.K-Key.Denot =
    record { partial_cmp = g.K.Key.PartialOrd.partial_cmp; eq = g.K.Key.PartialEq.eq; cmp = g.K.Key.Ord.cmp; overlap = g.K.Key.Shape.overlap; inside = g.K.Key.Shape.inside } in
    let f = format_of g.K.KeyClass in
    let kept = subst (λ (x : Parts g.row.K-Key.Denot g.row.D.Denot). IsKept k x.sessions) c.self.view_is c.stands.ensures in
    let has = stepped_as (known_at shape g.K.ReadKeys.is_proper) (reading_of g.K.ReadKeys.said f) f (is_node f) (state old.volume.shelf.disk) (state c.step_down.new.self.volume.shelf.disk) old.volume c.step_down.new.self.volume g.K.KeyClass.cost g.K.KeyClass.joined g.K.KeyClass.spelling g.K.KeyClass.KEY c.args.item c.args.entry.key c.in-Ok.did (Widened c.in-Widened.field-0 c.in-Widened.field-1 c.in-Widened.field-2) c.in-Widened.is c.in-Ok.ensures.step in
    let there = c.go_down.ensures.there c.in-Widened.field-0 (ap (λ (x : Descended g.row.K-Key.Denot). next_of x) c.in-Widened.is) (Insert c.args.entry) (Descends c.args.parent c.args.item) (ap (λ (x : Parts g.row.K-Key.Denot g.row.D.Denot). phase_at (c.args.session - 1) x.sessions.phases) c.step_down.ensures.only ∙ c.requires.descends) in
    let order = subst (λ (x : Parts g.row.K-Key.Denot g.row.D.Denot). IsInOrder (is_node f x.volume.shelf.pages) (state x.volume.shelf.disk).sectors x.volume.shelf.frames x.volume.shelf.used x.volume.shelf.pages)
    c.self.view_is c.in_order.ensures in
    let join : IsJoin (class_of shape g.K.ReadKeys.is_proper l) g.K.KeyClass.is_key g.K.KeyClass.joined = record {
      is_key = g.met.K.KeyClass.union_is_key;
      first = g.met.K.KeyClass.union_covers_first;
      second = g.met.K.KeyClass.union_covers_second;
      least = g.met.K.KeyClass.union_is_least;
    } in
    on_is c.args.session (Insert c.args.entry) c.args.item.page c.in-Widened.field-0 old c.step_down.new.self c.go_down.new.self c.step_down.ensures.only there c.go_down.result c.go_down.ensures.outcome
    (λ x y. Moves (class_of shape g.K.ReadKeys.is_proper l) (reading_of g.K.ReadKeys.said f) f (is_node f)
    (state old.volume.shelf.disk) (state x.volume.shelf.disk) c.args.session old x y (write_events c.args.session (Insert c.args.entry) y))
    (widened_moves _ (c.a_class_is_lawful.ensures l) g.K.ReadKeys.said f (is_node f) (state old.volume.shelf.disk) (state c.step_down.new.self.volume.shelf.disk)
    old kept c.args.session c.requires.session c.requires.early c.args.entry c.args.parent c.args.item c.requires.descends c.step_down.new.self.volume has.logged.most (flies_on _ _ has.logged.logs)
    g.K.KeyClass.is_key g.K.KeyClass.cost g.K.KeyClass.joined join c.known.ensures (c.a_volume_shows_keys.ensures l old.volume) order
    (nodes_of f _ _ order) g.K.KeyClass.spelling g.met.K.KeyClass.reading_back c.in-Widened.field-0 c.in-Widened.field-1 c.in-Widened.field-2 has.steps (has.own refl) (has.logged.keeps l))

pub returns-in-Down-clause-comes : goal.returns-in-Down-clause-comes
returns-in-Down-clause-comes g c =
    let old : Parts g.row.K-Key.Denot g.row.D.Denot = c.args.self.now in
    let k = keys g.K.Key.Ord.cmp g.K.Key.Shape.overlap g.K.Key.Shape.inside in
    let state = g.D.SectorDisk.state in
    let shape : Members g.row.K-Key.Denot =
    record { partial_cmp = g.K.Key.PartialOrd.partial_cmp; eq = g.K.Key.PartialEq.eq; cmp = g.K.Key.Ord.cmp; overlap = g.K.Key.Shape.overlap; inside = g.K.Key.Shape.inside } in
    let f = format_of g.K.KeyClass in
    let has = stepped_as (known_at shape g.K.ReadKeys.is_proper) (reading_of g.K.ReadKeys.said f) f (is_node f) (state old.volume.shelf.disk) (state c.step_down.new.self.volume.shelf.disk) old.volume c.step_down.new.self.volume g.K.KeyClass.cost g.K.KeyClass.joined g.K.KeyClass.spelling g.K.KeyClass.KEY c.args.item c.args.entry.key c.in-Ok.did (Down c.in-Down.field-0) c.in-Down.is c.in-Ok.ensures.step in
    let there = c.go_down-in-Down.ensures.there c.in-Down.field-0 (ap (λ (x : Descended g.row.K-Key.Denot). next_of x) c.in-Down.is) (Insert c.args.entry) (Descends c.args.parent c.args.item) (ap (λ (x : Parts g.row.K-Key.Denot g.row.D.Denot). phase_at (c.args.session - 1) x.sessions.phases) c.step_down.ensures.only ∙ c.requires.descends) in
    on_comes c.args.session (Insert c.args.entry) c.args.item.page c.in-Down.field-0 old c.step_down.new.self c.go_down-in-Down.new.self c.step_down.ensures.only there c.go_down-in-Down.result c.go_down-in-Down.ensures.outcome
    (AsksRoom k f g.K.KeyClass.KEY (state old.volume.shelf.disk) c.args.session (Insert c.args.entry) old) (LacksPages k f (state old.volume.shelf.disk) c.args.session (Insert c.args.entry) old) (MakesRoom k f (state old.volume.shelf.disk) c.args.session (Insert c.args.entry) old) k (is_node f) state has.logged.most
    (down_made k f (state old.volume.shelf.disk) c.args.session (Insert c.args.entry) old (state c.step_down.new.self.volume.shelf.disk)
    (calling c.args.session (Insert c.args.entry) (Descends c.args.item.page c.in-Down.field-0) (record old { volume = c.step_down.new.self.volume })) c.args.parent c.args.item c.requires.descends g.K.KeyClass.cost g.K.KeyClass.joined c.args.entry.key c.in-Down.field-0 has.steps)

pub returns-in-Down-clause-moves : goal.returns-in-Down-clause-moves
returns-in-Down-clause-moves g c l =
    let old : Parts g.row.K-Key.Denot g.row.D.Denot = c.args.self.now in
    let k = keys g.K.Key.Ord.cmp g.K.Key.Shape.overlap g.K.Key.Shape.inside in
    let state = g.D.SectorDisk.state in
    let shape : Members g.row.K-Key.Denot =
    record { partial_cmp = g.K.Key.PartialOrd.partial_cmp; eq = g.K.Key.PartialEq.eq; cmp = g.K.Key.Ord.cmp; overlap = g.K.Key.Shape.overlap; inside = g.K.Key.Shape.inside } in
    let f = format_of g.K.KeyClass in
    let kept = subst (λ (x : Parts g.row.K-Key.Denot g.row.D.Denot). IsKept k x.sessions) c.self.view_is c.stands.ensures in
    let has = stepped_as (known_at shape g.K.ReadKeys.is_proper) (reading_of g.K.ReadKeys.said f) f (is_node f) (state old.volume.shelf.disk) (state c.step_down.new.self.volume.shelf.disk) old.volume c.step_down.new.self.volume g.K.KeyClass.cost g.K.KeyClass.joined g.K.KeyClass.spelling g.K.KeyClass.KEY c.args.item c.args.entry.key c.in-Ok.did (Down c.in-Down.field-0) c.in-Down.is c.in-Ok.ensures.step in
    let there = c.go_down-in-Down.ensures.there c.in-Down.field-0 (ap (λ (x : Descended g.row.K-Key.Denot). next_of x) c.in-Down.is) (Insert c.args.entry) (Descends c.args.parent c.args.item) (ap (λ (x : Parts g.row.K-Key.Denot g.row.D.Denot). phase_at (c.args.session - 1) x.sessions.phases) c.step_down.ensures.only ∙ c.requires.descends) in
    let order = subst (λ (x : Parts g.row.K-Key.Denot g.row.D.Denot). IsInOrder (is_node f x.volume.shelf.pages) (state x.volume.shelf.disk).sectors x.volume.shelf.frames x.volume.shelf.used x.volume.shelf.pages)
    c.self.view_is c.in_order.ensures in
    let join : IsJoin (class_of shape g.K.ReadKeys.is_proper l) g.K.KeyClass.is_key g.K.KeyClass.joined = record {
      is_key = g.met.K.KeyClass.union_is_key;
      first = g.met.K.KeyClass.union_covers_first;
      second = g.met.K.KeyClass.union_covers_second;
      least = g.met.K.KeyClass.union_is_least;
    } in
    on_is c.args.session (Insert c.args.entry) c.args.item.page c.in-Down.field-0 old c.step_down.new.self c.go_down-in-Down.new.self c.step_down.ensures.only there c.go_down-in-Down.result c.go_down-in-Down.ensures.outcome
    (λ x y. Moves (class_of shape g.K.ReadKeys.is_proper l) (reading_of g.K.ReadKeys.said f) f (is_node f)
    (state old.volume.shelf.disk) (state x.volume.shelf.disk) c.args.session old x y (write_events c.args.session (Insert c.args.entry) y))
    (down_moves _ (c.a_class_is_lawful.ensures l) g.K.ReadKeys.said f (is_node f) (state old.volume.shelf.disk) (state c.step_down.new.self.volume.shelf.disk)
    old kept c.args.session c.requires.session c.requires.early c.args.entry c.args.parent c.args.item c.requires.descends c.step_down.new.self.volume has.logged.most has.logged.log (has.logged.since 0).goes_on.device (has.logged.keeps l)
    g.K.KeyClass.is_key g.K.KeyClass.cost g.K.KeyClass.joined join c.known.ensures (c.a_volume_shows_keys.ensures l old.volume) order c.in-Down.field-0 has.steps)

pub returns-in-Again-clause-comes : goal.returns-in-Again-clause-comes
returns-in-Again-clause-comes g c =
    let old : Parts g.row.K-Key.Denot g.row.D.Denot = c.args.self.now in
    let k = keys g.K.Key.Ord.cmp g.K.Key.Shape.overlap g.K.Key.Shape.inside in
    let state = g.D.SectorDisk.state in
    let shape : Members g.row.K-Key.Denot =
    record { partial_cmp = g.K.Key.PartialOrd.partial_cmp; eq = g.K.Key.PartialEq.eq; cmp = g.K.Key.Ord.cmp; overlap = g.K.Key.Shape.overlap; inside = g.K.Key.Shape.inside } in
    let f = format_of g.K.KeyClass in
    let has = stepped_as (known_at shape g.K.ReadKeys.is_proper) (reading_of g.K.ReadKeys.said f) f (is_node f) (state old.volume.shelf.disk) (state c.step_down.new.self.volume.shelf.disk) old.volume c.step_down.new.self.volume g.K.KeyClass.cost g.K.KeyClass.joined g.K.KeyClass.spelling g.K.KeyClass.KEY c.args.item c.args.entry.key c.in-Ok.did Again c.in-Again.is c.in-Ok.ensures.step in
    let there = c.begin_again.ensures.there (Insert c.args.entry) (Descends c.args.parent c.args.item) (ap (λ (x : Parts g.row.K-Key.Denot g.row.D.Denot). phase_at (c.args.session - 1) x.sessions.phases) c.step_down.ensures.only ∙ c.requires.descends) in
    on_comes c.args.session (Insert c.args.entry) 0 (record { page = 1; seen = c.step_down.new.self.volume.shelf.counter }) old c.step_down.new.self c.begin_again.new.self c.step_down.ensures.only there c.begin_again.result c.begin_again.ensures.outcome
    (AsksRoom k f g.K.KeyClass.KEY (state old.volume.shelf.disk) c.args.session (Insert c.args.entry) old) (LacksPages k f (state old.volume.shelf.disk) c.args.session (Insert c.args.entry) old) (MakesRoom k f (state old.volume.shelf.disk) c.args.session (Insert c.args.entry) old) k (is_node f) state has.logged.most
    (again_made k f (state old.volume.shelf.disk) c.args.session (Insert c.args.entry) old (state c.step_down.new.self.volume.shelf.disk)
    (calling c.args.session (Insert c.args.entry) (Descends 0 (record { page = 1; seen = c.step_down.new.self.volume.shelf.counter })) (record old { volume = c.step_down.new.self.volume })) c.args.parent c.args.item c.requires.descends g.K.KeyClass.cost g.K.KeyClass.joined c.args.entry.key has.steps)

pub returns-in-Again-clause-moves : goal.returns-in-Again-clause-moves
returns-in-Again-clause-moves g c l =
    let old : Parts g.row.K-Key.Denot g.row.D.Denot = c.args.self.now in
    let k = keys g.K.Key.Ord.cmp g.K.Key.Shape.overlap g.K.Key.Shape.inside in
    let state = g.D.SectorDisk.state in
    let shape : Members g.row.K-Key.Denot =
    record { partial_cmp = g.K.Key.PartialOrd.partial_cmp; eq = g.K.Key.PartialEq.eq; cmp = g.K.Key.Ord.cmp; overlap = g.K.Key.Shape.overlap; inside = g.K.Key.Shape.inside } in
    let f = format_of g.K.KeyClass in
    let kept = subst (λ (x : Parts g.row.K-Key.Denot g.row.D.Denot). IsKept k x.sessions) c.self.view_is c.stands.ensures in
    let has = stepped_as (known_at shape g.K.ReadKeys.is_proper) (reading_of g.K.ReadKeys.said f) f (is_node f) (state old.volume.shelf.disk) (state c.step_down.new.self.volume.shelf.disk) old.volume c.step_down.new.self.volume g.K.KeyClass.cost g.K.KeyClass.joined g.K.KeyClass.spelling g.K.KeyClass.KEY c.args.item c.args.entry.key c.in-Ok.did Again c.in-Again.is c.in-Ok.ensures.step in
    let there = c.begin_again.ensures.there (Insert c.args.entry) (Descends c.args.parent c.args.item) (ap (λ (x : Parts g.row.K-Key.Denot g.row.D.Denot). phase_at (c.args.session - 1) x.sessions.phases) c.step_down.ensures.only ∙ c.requires.descends) in
    on_is c.args.session (Insert c.args.entry) 0 (record { page = 1; seen = c.step_down.new.self.volume.shelf.counter }) old c.step_down.new.self c.begin_again.new.self c.step_down.ensures.only there c.begin_again.result c.begin_again.ensures.outcome
    (λ x y. Moves (class_of shape g.K.ReadKeys.is_proper l) (reading_of g.K.ReadKeys.said f) f (is_node f)
    (state old.volume.shelf.disk) (state x.volume.shelf.disk) c.args.session old x y (write_events c.args.session (Insert c.args.entry) y))
    (again_moves _ (c.a_class_is_lawful.ensures l) g.K.ReadKeys.said f (is_node f) (state old.volume.shelf.disk) (state c.step_down.new.self.volume.shelf.disk)
    old kept c.args.session c.requires.session c.requires.early c.args.entry c.args.parent c.args.item c.requires.descends c.step_down.new.self.volume has.logged.most has.logged.log (has.logged.since 0).goes_on.device (has.logged.keeps l)
    (λ steady. (has.steps steady).0))

pub returns-in-Leaf-clause-comes : goal.returns-in-Leaf-clause-comes
returns-in-Leaf-clause-comes g c =
    let old : Parts g.row.K-Key.Denot g.row.D.Denot = c.args.self.now in
    let k = keys g.K.Key.Ord.cmp g.K.Key.Shape.overlap g.K.Key.Shape.inside in
    let state = g.D.SectorDisk.state in
    let shape : Members g.row.K-Key.Denot =
    record { partial_cmp = g.K.Key.PartialOrd.partial_cmp; eq = g.K.Key.PartialEq.eq; cmp = g.K.Key.Ord.cmp; overlap = g.K.Key.Shape.overlap; inside = g.K.Key.Shape.inside } in
    let f = format_of g.K.KeyClass in
    let has = stepped_as (known_at shape g.K.ReadKeys.is_proper) (reading_of g.K.ReadKeys.said f) f (is_node f) (state old.volume.shelf.disk) (state c.step_down.new.self.volume.shelf.disk) old.volume c.step_down.new.self.volume g.K.KeyClass.cost g.K.KeyClass.joined g.K.KeyClass.spelling g.K.KeyClass.KEY c.args.item c.args.entry.key c.in-Ok.did Leaf c.in-Leaf.is c.in-Ok.ensures.step in
    let known = known_at shape g.K.ReadKeys.is_proper in
    let r = reading_of g.K.ReadKeys.said f in
    let d = state old.volume.shelf.disk in
    let m = state c.step_down.new.self.volume.shelf.disk in
    let mid = c.step_down.new.self in
    let page = c.args.item.page in
    let key = g.K.KeyClass.KEY in
    let e = state c.add_here.new.self.volume.shelf.disk in
    comes_more k (is_node f) d e c.args.session (Insert c.args.entry) old c.add_here.new.self (λ size. size ≡ add_room (is_imaged mid.volume.imaged page) key) (AsksRoom k f key d c.args.session (Insert c.args.entry) old)
    (asks_add k f key d c.args.session c.args.entry c.args.parent c.args.item old c.requires.descends (λ steady. ((has.steps steady).0.1, (has.steps steady).0.2))
    mid.volume.imaged has.logged.imaged)
    ⊥ (LacksPages k f d c.args.session (Insert c.args.entry) old) (λ none. absurd none)
    (λ x y. ⊥) (MakesRoom k f d c.args.session (Insert c.args.entry) old) (λ none. absurd none) c.add_here.result
    (comes_then k known r f (is_node f) (widen_room (is_imaged old.volume.imaged c.args.item.page) g.K.KeyClass.KEY) d m e c.args.session c.args.entry old mid c.step_down.ensures.only has.logged (λ size. size ≡ add_room (is_imaged mid.volume.imaged page) key) ⊥ ⊥ (λ none. none) (λ x y. ⊥) (λ x y. ⊥) (λ x none. none)
    c.add_here.new.self c.add_here.result c.add_here.ensures.comes)

pub returns-in-Leaf-clause-moves : goal.returns-in-Leaf-clause-moves
returns-in-Leaf-clause-moves g c l bodies i h =
    let old : Parts g.row.K-Key.Denot g.row.D.Denot = c.args.self.now in
    let k = keys g.K.Key.Ord.cmp g.K.Key.Shape.overlap g.K.Key.Shape.inside in
    let state = g.D.SectorDisk.state in
    let shape : Members g.row.K-Key.Denot =
    record { partial_cmp = g.K.Key.PartialOrd.partial_cmp; eq = g.K.Key.PartialEq.eq; cmp = g.K.Key.Ord.cmp; overlap = g.K.Key.Shape.overlap; inside = g.K.Key.Shape.inside } in
    let f = format_of g.K.KeyClass in
    let has = stepped_as (known_at shape g.K.ReadKeys.is_proper) (reading_of g.K.ReadKeys.said f) f (is_node f) (state old.volume.shelf.disk) (state c.step_down.new.self.volume.shelf.disk) old.volume c.step_down.new.self.volume g.K.KeyClass.cost g.K.KeyClass.joined g.K.KeyClass.spelling g.K.KeyClass.KEY c.args.item c.args.entry.key c.in-Ok.did Leaf c.in-Leaf.is c.in-Ok.ensures.step in
    let un = has.logged in
    let step = has.steps h.keeps.steady in
    moves_then (class_of shape g.K.ReadKeys.is_proper l) (c.a_class_is_lawful.ensures l) (reading_of g.K.ReadKeys.said f) f (is_node f) (state old.volume.shelf.disk) (state c.step_down.new.self.volume.shelf.disk) (state c.add_here.new.self.volume.shelf.disk) c.args.session old
    c.step_down.new.self c.step_down.ensures.only un.most un.log (un.since 0).goes_on.device (un.keeps l) c.add_here.new.self c.add_here.result (write_events c.args.session (Insert c.args.entry) c.add_here.result)
    (c.add_here.ensures.moves (λ still. said_again k f (state old.volume.shelf.disk) (state c.step_down.new.self.volume.shelf.disk) old c.step_down.new.self c.step_down.ensures.only un.most step.1 c.args.item.page (λ n s. WayAt g.K.KeyClass.cost g.K.KeyClass.joined n s c.args.item c.args.entry.key Add) step.0) l)
    bodies i h

pub returns-in-FullLeaf-clause-comes : goal.returns-in-FullLeaf-clause-comes
returns-in-FullLeaf-clause-comes g c =
    let old : Parts g.row.K-Key.Denot g.row.D.Denot = c.args.self.now in
    let k = keys g.K.Key.Ord.cmp g.K.Key.Shape.overlap g.K.Key.Shape.inside in
    let state = g.D.SectorDisk.state in
    let shape : Members g.row.K-Key.Denot =
    record { partial_cmp = g.K.Key.PartialOrd.partial_cmp; eq = g.K.Key.PartialEq.eq; cmp = g.K.Key.Ord.cmp; overlap = g.K.Key.Shape.overlap; inside = g.K.Key.Shape.inside } in
    let f = format_of g.K.KeyClass in
    let has = stepped_as (known_at shape g.K.ReadKeys.is_proper) (reading_of g.K.ReadKeys.said f) f (is_node f) (state old.volume.shelf.disk) (state c.step_down.new.self.volume.shelf.disk) old.volume c.step_down.new.self.volume g.K.KeyClass.cost g.K.KeyClass.joined g.K.KeyClass.spelling g.K.KeyClass.KEY c.args.item c.args.entry.key c.in-Ok.did FullLeaf c.in-FullLeaf.is c.in-Ok.ensures.step in
    let known = known_at shape g.K.ReadKeys.is_proper in
    let r = reading_of g.K.ReadKeys.said f in
    let d = state old.volume.shelf.disk in
    let m = state c.step_down.new.self.volume.shelf.disk in
    let mid = c.step_down.new.self in
    let page = c.args.item.page in
    let key = g.K.KeyClass.KEY in
    let e = state c.make_room.new.self.volume.shelf.disk in
    let full : IsFull f d old page = λ steady. full_leaf (node_shown f d page old) old.volume.most (has.steps steady).0.2 in
    let steady = (has.logged.since 0).goes_on.steady in
    let same = λ (still : IsSteady d old.volume.shelf.frames). (has.steps still).1 in
    comes_more k (is_node f) d e c.args.session (Insert c.args.entry) old c.make_room.new.self (AsksHere k f d old page) (AsksRoom k f key d c.args.session (Insert c.args.entry) old)
    (asks_sweep k f key d c.args.session c.args.entry c.args.parent c.args.item old c.requires.descends full)
    (LeftFew d old page × HasNoneToSweep k f d old page) (LacksPages k f d c.args.session (Insert c.args.entry) old)
    (λ lacks. lacks_pages k f key d c.args.session c.args.entry c.args.parent c.args.item old c.requires.descends full lacks.1 lacks.0)
    (λ x y. IsOnlySwept k f d x page old y ⊎ HasNoneToSweep k f d old page) (MakesRoom k f d c.args.session (Insert c.args.entry) old)
    (room_made k f d c.args.session (Insert c.args.entry) old e c.make_room.new.self c.args.parent c.args.item c.requires.descends full
    (to_split k f key d c.args.session c.args.entry c.args.parent c.args.item old c.requires.descends full)) c.make_room.result
    (comes_then k known r f (is_node f) (widen_room (is_imaged old.volume.imaged c.args.item.page) g.K.KeyClass.KEY) d m e c.args.session c.args.entry old mid c.step_down.ensures.only has.logged (AsksHere k f d old page)
    (LeftFew m mid page × HasNoneToSweep k f m mid page) (LeftFew d old page × HasNoneToSweep k f d old page)
    (lacks_before k f d m old mid c.step_down.ensures.only steady same page
    (few_then k known r f (is_node f) (widen_room (is_imaged old.volume.imaged c.args.item.page) g.K.KeyClass.KEY) d m e c.args.session c.args.entry old mid c.step_down.ensures.only has.logged same page))
    (λ x y. IsOnlySwept k f m x page mid y ⊎ HasNoneToSweep k f m mid page) (λ x y. IsOnlySwept k f d x page old y ⊎ HasNoneToSweep k f d old page)
    (λ y. made_before k f d m old mid c.step_down.ensures.only steady same page e y)
    c.make_room.new.self c.make_room.result
    (comes_more k (is_node f) m e c.args.session (Insert c.args.entry) mid c.make_room.new.self (AsksHere k f m mid page) (AsksHere k f d old page)
    (asks_again k f d m old mid c.step_down.ensures.only has.logged.imaged steady same page)
    (LeftFew m mid page × HasNoneToSweep k f m mid page) (LeftFew m mid page × HasNoneToSweep k f m mid page) (λ lacks. lacks)
    (λ x y. IsOnlySwept k f m x page mid y ⊎ HasNoneToSweep k f m mid page) (λ x y. IsOnlySwept k f m x page mid y ⊎ HasNoneToSweep k f m mid page) (λ made. made)
    c.make_room.result (c.make_room.ensures.comes c.args.entry (ap (λ (x : Parts g.row.K-Key.Denot g.row.D.Denot). phase_at (c.args.session - 1) x.sessions.phases) c.step_down.ensures.only ∙ c.requires.descends))))

pub returns-in-FullLeaf-clause-moves : goal.returns-in-FullLeaf-clause-moves
returns-in-FullLeaf-clause-moves g c l bodies i h =
    let old : Parts g.row.K-Key.Denot g.row.D.Denot = c.args.self.now in
    let k = keys g.K.Key.Ord.cmp g.K.Key.Shape.overlap g.K.Key.Shape.inside in
    let state = g.D.SectorDisk.state in
    let shape : Members g.row.K-Key.Denot =
    record { partial_cmp = g.K.Key.PartialOrd.partial_cmp; eq = g.K.Key.PartialEq.eq; cmp = g.K.Key.Ord.cmp; overlap = g.K.Key.Shape.overlap; inside = g.K.Key.Shape.inside } in
    let f = format_of g.K.KeyClass in
    let has = stepped_as (known_at shape g.K.ReadKeys.is_proper) (reading_of g.K.ReadKeys.said f) f (is_node f) (state old.volume.shelf.disk) (state c.step_down.new.self.volume.shelf.disk) old.volume c.step_down.new.self.volume g.K.KeyClass.cost g.K.KeyClass.joined g.K.KeyClass.spelling g.K.KeyClass.KEY c.args.item c.args.entry.key c.in-Ok.did FullLeaf c.in-FullLeaf.is c.in-Ok.ensures.step in
    let un = has.logged in
    let step = has.steps h.keeps.steady in
    moves_then (class_of shape g.K.ReadKeys.is_proper l) (c.a_class_is_lawful.ensures l) (reading_of g.K.ReadKeys.said f) f (is_node f) (state old.volume.shelf.disk) (state c.step_down.new.self.volume.shelf.disk) (state c.make_room.new.self.volume.shelf.disk) c.args.session old
    c.step_down.new.self c.step_down.ensures.only un.most un.log (un.since 0).goes_on.device (un.keeps l) c.make_room.new.self c.make_room.result (write_events c.args.session (Insert c.args.entry) c.make_room.result)
    (c.make_room.ensures.moves c.args.entry (ap (λ (x : Parts g.row.K-Key.Denot g.row.D.Denot). phase_at (c.args.session - 1) x.sessions.phases) c.step_down.ensures.only ∙ c.requires.descends)
    (λ still. said_again k f (state old.volume.shelf.disk) (state c.step_down.new.self.volume.shelf.disk) old c.step_down.new.self c.step_down.ensures.only un.most step.1 c.args.item.page (λ n s. (((tree_of s).node c.args.item.page).level ≡ 0) × (n ≤ length ((tree_of s).node c.args.item.page).pairs)) (step.0.1, step.0.2)) l)
    bodies i h

pub returns-in-FullInner-clause-comes : goal.returns-in-FullInner-clause-comes
returns-in-FullInner-clause-comes g c =
    let old : Parts g.row.K-Key.Denot g.row.D.Denot = c.args.self.now in
    let k = keys g.K.Key.Ord.cmp g.K.Key.Shape.overlap g.K.Key.Shape.inside in
    let state = g.D.SectorDisk.state in
    let shape : Members g.row.K-Key.Denot =
    record { partial_cmp = g.K.Key.PartialOrd.partial_cmp; eq = g.K.Key.PartialEq.eq; cmp = g.K.Key.Ord.cmp; overlap = g.K.Key.Shape.overlap; inside = g.K.Key.Shape.inside } in
    let f = format_of g.K.KeyClass in
    let has = stepped_as (known_at shape g.K.ReadKeys.is_proper) (reading_of g.K.ReadKeys.said f) f (is_node f) (state old.volume.shelf.disk) (state c.step_down.new.self.volume.shelf.disk) old.volume c.step_down.new.self.volume g.K.KeyClass.cost g.K.KeyClass.joined g.K.KeyClass.spelling g.K.KeyClass.KEY c.args.item c.args.entry.key c.in-Ok.did FullInner c.in-FullInner.is c.in-Ok.ensures.step in
    let known = known_at shape g.K.ReadKeys.is_proper in
    let r = reading_of g.K.ReadKeys.said f in
    let d = state old.volume.shelf.disk in
    let m = state c.step_down.new.self.volume.shelf.disk in
    let mid = c.step_down.new.self in
    let page = c.args.item.page in
    let key = g.K.KeyClass.KEY in
    let e = state c.split_here.new.self.volume.shelf.disk in
    let full : IsFull f d old page = λ steady. full_inner (node_shown f d page old) old.volume.most (has.steps steady).0.2 in
    let same = λ (still : IsSteady d old.volume.shelf.frames). (has.steps still).1 in
    let none : HasNoneToSweep k f d old page = λ still. inner_removable (is_held k old) (node_shown f d page old) (has.steps still).0.1 in
    comes_more k (is_node f) d e c.args.session (Insert c.args.entry) old c.split_here.new.self (λ size. size ≡ SPLIT_RECORD) (AsksRoom k f key d c.args.session (Insert c.args.entry) old)
    (asks_split k f key d c.args.session c.args.entry c.args.parent c.args.item old c.requires.descends full)
    (LeftFew d old page) (LacksPages k f d c.args.session (Insert c.args.entry) old)
    (lacks_pages k f key d c.args.session c.args.entry c.args.parent c.args.item old c.requires.descends full none)
    (λ x y. Unit {0}) (MakesRoom k f d c.args.session (Insert c.args.entry) old)
    (λ made. inner_made k f d c.args.session (Insert c.args.entry) old e c.split_here.new.self c.args.parent c.args.item c.requires.descends full
    (to_split k f key d c.args.session c.args.entry c.args.parent c.args.item old c.requires.descends full) (λ still. (has.steps still).0.1)) c.split_here.result
    (comes_then k known r f (is_node f) (widen_room (is_imaged old.volume.imaged c.args.item.page) g.K.KeyClass.KEY) d m e c.args.session c.args.entry old mid c.step_down.ensures.only has.logged (λ size. size ≡ SPLIT_RECORD) (LeftFew m mid page) (LeftFew d old page)
    (few_then k known r f (is_node f) (widen_room (is_imaged old.volume.imaged c.args.item.page) g.K.KeyClass.KEY) d m e c.args.session c.args.entry old mid c.step_down.ensures.only has.logged same page)
    (λ x y. Unit {0}) (λ x y. Unit {0}) (λ y made. made)
    c.split_here.new.self c.split_here.result (c.split_here.ensures.comes c.args.entry (ap (λ (x : Parts g.row.K-Key.Denot g.row.D.Denot). phase_at (c.args.session - 1) x.sessions.phases) c.step_down.ensures.only ∙ c.requires.descends)))

pub returns-in-FullInner-clause-moves : goal.returns-in-FullInner-clause-moves
returns-in-FullInner-clause-moves g c l bodies i h =
    let old : Parts g.row.K-Key.Denot g.row.D.Denot = c.args.self.now in
    let k = keys g.K.Key.Ord.cmp g.K.Key.Shape.overlap g.K.Key.Shape.inside in
    let state = g.D.SectorDisk.state in
    let shape : Members g.row.K-Key.Denot =
    record { partial_cmp = g.K.Key.PartialOrd.partial_cmp; eq = g.K.Key.PartialEq.eq; cmp = g.K.Key.Ord.cmp; overlap = g.K.Key.Shape.overlap; inside = g.K.Key.Shape.inside } in
    let f = format_of g.K.KeyClass in
    let has = stepped_as (known_at shape g.K.ReadKeys.is_proper) (reading_of g.K.ReadKeys.said f) f (is_node f) (state old.volume.shelf.disk) (state c.step_down.new.self.volume.shelf.disk) old.volume c.step_down.new.self.volume g.K.KeyClass.cost g.K.KeyClass.joined g.K.KeyClass.spelling g.K.KeyClass.KEY c.args.item c.args.entry.key c.in-Ok.did FullInner c.in-FullInner.is c.in-Ok.ensures.step in
    let un = has.logged in
    let step = has.steps h.keeps.steady in
    moves_then (class_of shape g.K.ReadKeys.is_proper l) (c.a_class_is_lawful.ensures l) (reading_of g.K.ReadKeys.said f) f (is_node f) (state old.volume.shelf.disk) (state c.step_down.new.self.volume.shelf.disk) (state c.split_here.new.self.volume.shelf.disk) c.args.session old
    c.step_down.new.self c.step_down.ensures.only un.most un.log (un.since 0).goes_on.device (un.keeps l) c.split_here.new.self c.split_here.result (write_events c.args.session (Insert c.args.entry) c.split_here.result)
    (c.split_here.ensures.moves c.args.entry (ap (λ (x : Parts g.row.K-Key.Denot g.row.D.Denot). phase_at (c.args.session - 1) x.sessions.phases) c.step_down.ensures.only ∙ c.requires.descends)
    (λ still. said_again k f (state old.volume.shelf.disk) (state c.step_down.new.self.volume.shelf.disk) old c.step_down.new.self c.step_down.ensures.only un.most step.1 c.args.item.page (λ n s. n ≤ size ((tree_of s).node c.args.item.page)) (full_inner (node_shown f (state old.volume.shelf.disk) c.args.item.page old) old.volume.most step.0.2))
    (λ still. removable_again k f (state old.volume.shelf.disk) (state c.step_down.new.self.volume.shelf.disk) old c.step_down.new.self c.step_down.ensures.only un.most step.1 c.args.item.page (inner_removable (is_held k old) (node_shown f (state old.volume.shelf.disk) c.args.item.page old) step.0.1)) l)
    bodies i h

pub returns-in-Err-Pages-clause-comes : goal.returns-in-Err-Pages-clause-comes
returns-in-Err-Pages-clause-comes g c =
    let old : Parts g.row.K-Key.Denot g.row.D.Denot = c.args.self.now in
    let k = keys g.K.Key.Ord.cmp g.K.Key.Shape.overlap g.K.Key.Shape.inside in
    let state = g.D.SectorDisk.state in
    let did = c.in-Err-Pages.ensures.step in
    stopped_comes (AsksRoom k (format_of g.K.KeyClass) g.K.KeyClass.KEY (state old.volume.shelf.disk) c.args.session (Insert c.args.entry) old) (LacksPages k (format_of g.K.KeyClass) (state old.volume.shelf.disk) c.args.session (Insert c.args.entry) old) (MakesRoom k (format_of g.K.KeyClass) (state old.volume.shelf.disk) c.args.session (Insert c.args.entry) old) k (is_node (format_of g.K.KeyClass)) state old c.args.session c.args.entry c.step_down.new.self.volume did.stops.unlogged.most did.stops.unlogged.log did.stops.unlogged.imaged
    c.requires.early (λ page. (did.stops.unlogged.since page).same.stamp) (widen_room (is_imaged old.volume.imaged c.args.item.page) g.K.KeyClass.KEY)
    (asks_widen k (format_of g.K.KeyClass) g.K.KeyClass.KEY (state old.volume.shelf.disk) c.args.session c.args.entry c.args.parent c.args.item old c.requires.descends _ refl)
    (widen_is_short (is_imaged old.volume.imaged c.args.item.page) g.K.KeyClass.KEY g.met.K.KeyClass.key_is_short) c.in-Err-Pages.fault (why_pages _ c.in-Err-Pages.field-0 c.in-Err-Pages.fault c.in-Err-Pages.field-0-is did.stops.why)
    c.refuse.new.self c.refuse.result
    (subst (λ (x : Parts g.row.K-Key.Denot g.row.D.Denot). IsRefused c.in-Err-Pages.fault x c.refuse.new.self c.refuse.result) c.step_down.ensures.only
    (subst (λ (n : StoreFault). IsRefused n c.step_down.new.self c.refuse.new.self c.refuse.result) c.in-Err-Pages.fault-is c.refuse.ensures.refused))

pub returns-in-Err-Pages-clause-moves : goal.returns-in-Err-Pages-clause-moves
returns-in-Err-Pages-clause-moves g c =
    let old : Parts g.row.K-Key.Denot g.row.D.Denot = c.args.self.now in
    let k = keys g.K.Key.Ord.cmp g.K.Key.Shape.overlap g.K.Key.Shape.inside in
    let state = g.D.SectorDisk.state in
    let kept = subst (λ (x : Parts g.row.K-Key.Denot g.row.D.Denot). IsKept k x.sessions) c.self.view_is c.stands.ensures in
    let did = c.in-Err-Pages.ensures.step in
    let un = did.stops.unlogged in
    λ l. stopped_moves _ (c.a_class_is_lawful.ensures l) _ _ _ state old kept c.requires.works c.args.session c.requires.session c.args.entry _ c.requires.descends
    c.step_down.new.self.volume un.most un.log (un.since 0).goes_on.device (un.keeps l)
    (widen_room (is_imaged old.volume.imaged c.args.item.page) g.K.KeyClass.KEY) c.in-Err-Pages.fault (why_pages _ c.in-Err-Pages.field-0 c.in-Err-Pages.fault c.in-Err-Pages.field-0-is did.stops.why)
    c.refuse.new.self c.refuse.result
    (subst (λ (x : Parts g.row.K-Key.Denot g.row.D.Denot). IsRefused c.in-Err-Pages.fault x c.refuse.new.self c.refuse.result) c.step_down.ensures.only
    (subst (λ (n : StoreFault). IsRefused n c.step_down.new.self c.refuse.new.self c.refuse.result) c.in-Err-Pages.fault-is c.refuse.ensures.refused))

pub returns-in-Err-Damaged : goal.returns-in-Err-Damaged
returns-in-Err-Damaged g c =
    let old : Parts g.row.K-Key.Denot g.row.D.Denot = c.args.self.now in
    let k = keys g.K.Key.Ord.cmp g.K.Key.Shape.overlap g.K.Key.Shape.inside in
    let state = g.D.SectorDisk.state in
    let kept = subst (λ (x : Parts g.row.K-Key.Denot g.row.D.Denot). IsKept k x.sessions) c.self.view_is c.stands.ensures in
    let did = c.in-Err-Damaged.ensures.step in
    let un = did.stops.unlogged in
    let f = format_of g.K.KeyClass in
    let damaged : c.in-Err-Damaged.field-0 ≡ Damaged = search rules in
    record {
      comes =
          lost_comes (AsksRoom k f g.K.KeyClass.KEY (state old.volume.shelf.disk) c.args.session (Insert c.args.entry) old) (LacksPages k f (state old.volume.shelf.disk) c.args.session (Insert c.args.entry) old) (MakesRoom k f (state old.volume.shelf.disk) c.args.session (Insert c.args.entry) old) k (is_node f) state old c.args.session c.args.entry c.step_down.new.self.volume un.most un.log un.imaged c.break_off.new.self c.break_off.result c.break_off.ensures.outcome
          (c.break_off.ensures.failed ∙ ap (λ (x : Parts g.row.K-Key.Denot g.row.D.Denot). record x { sessions = failed_state x.sessions }) c.step_down.ensures.only);
      device = then_read g.D.SectorDisk.state c.args.self.now c.step_down.new.self c.break_off.new.self c.step_down.ensures.device c.break_off.ensures.device;
      moves = λ l.
          never_stepped _ (c.a_class_is_lawful.ensures l) g.K.ReadKeys.said f (is_node f) (state old.volume.shelf.disk) _ old kept c.args.session c.requires.session c.args.entry c.args.parent c.args.item
          c.requires.descends (λ steady. did.damaged steady damaged) c.break_off.new.self c.break_off.result _;
      told =
          quiet_told g.D.SectorDisk.state c.args.self.now c.step_down.new.self c.break_off.new.self (step_fails store_fails c.in-Err-Damaged.field-0) c.break_off.result _ (ap (λ (x : StepFault StoreFault). step_fails store_fails x) damaged)
          c.in-Err-Damaged.ensures.told (ap (λ (x : Parts g.row.K-Key.Denot g.row.D.Denot). x.volume) c.break_off.ensures.failed) c.break_off.ensures.outcome refl;
    }

pub returns-in-Widened-clause-device : goal.returns-in-Widened-clause-device
returns-in-Widened-clause-device g c = then_read g.D.SectorDisk.state c.args.self.now c.step_down.new.self c.go_down.new.self c.step_down.ensures.device c.go_down.ensures.device

pub returns-in-Down-clause-device : goal.returns-in-Down-clause-device
returns-in-Down-clause-device g c = then_read g.D.SectorDisk.state c.args.self.now c.step_down.new.self c.go_down-in-Down.new.self c.step_down.ensures.device c.go_down-in-Down.ensures.device

pub returns-in-Again-clause-device : goal.returns-in-Again-clause-device
returns-in-Again-clause-device g c = then_read g.D.SectorDisk.state c.args.self.now c.step_down.new.self c.begin_again.new.self c.step_down.ensures.device c.begin_again.ensures.device

pub returns-in-Leaf-clause-device : goal.returns-in-Leaf-clause-device
returns-in-Leaf-clause-device g c = then_read g.D.SectorDisk.state c.args.self.now c.step_down.new.self c.add_here.new.self c.step_down.ensures.device c.add_here.ensures.device

pub returns-in-FullLeaf-clause-device : goal.returns-in-FullLeaf-clause-device
returns-in-FullLeaf-clause-device g c = then_read g.D.SectorDisk.state c.args.self.now c.step_down.new.self c.make_room.new.self c.step_down.ensures.device c.make_room.ensures.device

pub returns-in-FullInner-clause-device : goal.returns-in-FullInner-clause-device
returns-in-FullInner-clause-device g c = then_read g.D.SectorDisk.state c.args.self.now c.step_down.new.self c.split_here.new.self c.step_down.ensures.device c.split_here.ensures.device

pub returns-in-Widened-clause-told : goal.returns-in-Widened-clause-told
returns-in-Widened-clause-told g c = then_told g.D.SectorDisk.state c.args.self.now c.step_down.new.self c.go_down.new.self c.go_down.result c.in-Ok.ensures.told c.go_down.ensures.told

pub returns-in-Down-clause-told : goal.returns-in-Down-clause-told
returns-in-Down-clause-told g c = then_told g.D.SectorDisk.state c.args.self.now c.step_down.new.self c.go_down-in-Down.new.self c.go_down-in-Down.result c.in-Ok.ensures.told c.go_down-in-Down.ensures.told

pub returns-in-Again-clause-told : goal.returns-in-Again-clause-told
returns-in-Again-clause-told g c = then_told g.D.SectorDisk.state c.args.self.now c.step_down.new.self c.begin_again.new.self c.begin_again.result c.in-Ok.ensures.told c.begin_again.ensures.told

pub returns-in-Leaf-clause-told : goal.returns-in-Leaf-clause-told
returns-in-Leaf-clause-told g c = then_told g.D.SectorDisk.state c.args.self.now c.step_down.new.self c.add_here.new.self c.add_here.result c.in-Ok.ensures.told c.add_here.ensures.told

pub returns-in-FullLeaf-clause-told : goal.returns-in-FullLeaf-clause-told
returns-in-FullLeaf-clause-told g c = then_told g.D.SectorDisk.state c.args.self.now c.step_down.new.self c.make_room.new.self c.make_room.result c.in-Ok.ensures.told c.make_room.ensures.told

pub returns-in-FullInner-clause-told : goal.returns-in-FullInner-clause-told
returns-in-FullInner-clause-told g c = then_told g.D.SectorDisk.state c.args.self.now c.step_down.new.self c.split_here.new.self c.split_here.result c.in-Ok.ensures.told c.split_here.ensures.told

pub returns-in-Err-Pages-clause-told : goal.returns-in-Err-Pages-clause-told
returns-in-Err-Pages-clause-told g c =
    pages_told g.D.SectorDisk.state c.args.self.now c.step_down.new.self c.refuse.new.self c.in-Err-Pages.field-0 c.in-Err-Pages.fault c.refuse.result c.in-Err-Pages.field-0-is c.in-Err-Pages.ensures.told
    c.refuse.ensures.volume (c.refuse.ensures.told ∙ ap (λ (n : StoreFault). store_fails n) c.in-Err-Pages.fault-is)
