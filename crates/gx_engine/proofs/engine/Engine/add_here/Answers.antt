use Rattle.std.proofs.Common.{◌≡◌, ◌∙◌, ℕ, ap, refl, subst, rules}
use Rattle.gx_machine.specs.declared.call.Call.TheVariants.{Insert}
use Rattle.gx_machine.specs.Keys.{Members, keys}
use Rattle.gx_durable.specs.Classes.{class_of, reading_of}
use Rattle.gx_node.specs.Keyed.{rules_of}
use Rattle.gx_node.specs.Reading.{format_of, is_node}
use Rattle.gx_node.specs.SmallLaws.{PairsMean}
use Rattle.gx_node.specs.declared.fault.StepFault.TheVariants.{Damaged}
use Rattle.gx_phases.specs.Moves.{failed_state}
use Rattle.gx_phases.specs.States.{IsKept}
use Rattle.gx_store.specs.declared.fault.StoreFault.{StoreFault}
use Rattle.gx_store.specs.State.{IsInOrder}
use Rattle.gx_storage.specs.Imaged.{is_imaged}
use Rattle.gx_storage.specs.Small.{add_room}
use Rattle.gx_storage.proofs.Recording.{nodes_of}
use Rattle.gx_engine.specs.Moves.{Moves}
use Rattle.gx_engine.specs.Refusals.{IsRefused}
use Rattle.gx_engine.specs.States.{Parts}
use Rattle.gx_engine.specs.Writes.{write_events}
use Rattle.gx_engine.proofs.Serving.{flies_on}
use Rattle.gx_engine.proofs.writes.descents.Inserted.{add_is_short, added_comes, added_is, added_moves, never_added}
use Rattle.gx_engine.proofs.writes.descents.Stopping.{lost_comes, stopped_comes, stopped_moves}
use Rattle.gx_engine.proofs.UndoMoves.{why_pages}
use Rattle.gx_engine.proofs.Calling.{then_read}
use Rattle.gx_node.specs.declared.fault.StepFault.{StepFault}
use Rattle.gx_node.specs.Owner.{step_fails}
use Rattle.gx_store.specs.Faults.{store_fails}
use Rattle.gx_engine.proofs.Failing.{pages_told, quiet_told}
use Rattle.gx_engine.proofs.engine.Engine.add_here.Goals as goal

pub returns-in-Ok-clause-comes : goal.returns-in-Ok-clause-comes
returns-in-Ok-clause-comes g c =
    added_comes c.args.session c.args.entry (keys g.K.Key.Ord.cmp g.K.Key.Shape.overlap g.K.Key.Shape.inside) c.args.item.page c.args.self.now c.add_pair.new.self c.note_added.new.self
    c.add_pair.ensures.only (search rules) c.note_added.result c.note_added.ensures.outcome
    (λ size. size ≡ add_room (is_imaged c.args.self.now.volume.imaged c.args.item.page) g.K.KeyClass.KEY) ⊥ (λ x y. ⊥) (is_node (format_of g.K.KeyClass)) g.D.SectorDisk.state c.in-Ok.ensures.adds.logged.most

pub returns-in-Ok-clause-moves : goal.returns-in-Ok-clause-moves
returns-in-Ok-clause-moves g c leaf =
    let old : Parts g.row.K-Key.Denot g.row.D.Denot = c.args.self.now in
    let k = keys g.K.Key.Ord.cmp g.K.Key.Shape.overlap g.K.Key.Shape.inside in
    let state = g.D.SectorDisk.state in
    let kept = subst (λ (x : Parts g.row.K-Key.Denot g.row.D.Denot). IsKept k x.sessions) c.self.view_is c.stands.ensures in
    let did = c.in-Ok.ensures.adds in
    let shape : Members g.row.K-Key.Denot =
    record { partial_cmp = g.K.Key.PartialOrd.partial_cmp; eq = g.K.Key.PartialEq.eq; cmp = g.K.Key.Ord.cmp; overlap = g.K.Key.Shape.overlap; inside = g.K.Key.Shape.inside } in
    let key = c.args.entry.key in
    let f = format_of g.K.KeyClass in
    let nodes = nodes_of f _ _ (subst (λ (x : Parts g.row.K-Key.Denot g.row.D.Denot). IsInOrder (is_node f x.volume.shelf.pages) (state x.volume.shelf.disk).sectors x.volume.shelf.frames x.volume.shelf.used x.volume.shelf.pages)
    c.self.view_is c.in_order.ensures) in
    let most = c.most.ensures.most ∙ ap (λ (x : Parts g.row.K-Key.Denot g.row.D.Denot). x.volume.most) c.self.view_is in
    let means = subst (λ (n : ℕ). PairsMean f (rules_of shape n)) most c.small_pairs.ensures in
    λ l. added_is c.args.session c.args.entry k c.args.item.page old c.add_pair.new.self c.note_added.new.self c.add_pair.ensures.only c.note_added.ensures.noted c.note_added.result
    c.note_added.ensures.outcome
    (λ x y. Moves (class_of shape g.K.ReadKeys.is_proper l) (reading_of g.K.ReadKeys.said (format_of g.K.KeyClass)) (format_of g.K.KeyClass) (is_node (format_of g.K.KeyClass))
    (state old.volume.shelf.disk) (state x.volume.shelf.disk) c.args.session old x y (write_events c.args.session (Insert c.args.entry) y))
    (added_moves _ (c.a_class_is_lawful.ensures l) _ _ _ (state old.volume.shelf.disk) (state c.add_pair.new.self.volume.shelf.disk) old kept c.requires.works c.args.session c.requires.session
    c.requires.early c.args.entry c.args.parent c.args.item c.requires.descends c.add_pair.new.self.volume did.logged.most (flies_on _ _ did.logged.logs)
    (λ steady. (leaf steady).0) did.adds _ refl g.K.KeyClass.spelling (g.met.K.ReadKeys.said_back key c.known.ensures) (g.met.K.ReadKeys.key_is_proper key c.known.ensures)
    nodes (rules_of shape) refl means did.spelled (g.met.K.KeyClass.reading_back key c.known.ensures) (did.logged.keeps l) did.own)

pub returns-in-Err-Pages-clause-comes : goal.returns-in-Err-Pages-clause-comes
returns-in-Err-Pages-clause-comes g c =
    let did = c.in-Err-Pages.ensures.adds in
    let short = g.met.K.KeyClass.key_is_short in
    stopped_comes (λ size. size ≡ add_room (is_imaged c.args.self.now.volume.imaged c.args.item.page) g.K.KeyClass.KEY) ⊥ (λ x y. ⊥) (keys g.K.Key.Ord.cmp g.K.Key.Shape.overlap g.K.Key.Shape.inside) (is_node (format_of g.K.KeyClass)) g.D.SectorDisk.state c.args.self.now c.args.session c.args.entry c.add_pair.new.self.volume did.stops.unlogged.most did.stops.unlogged.log did.stops.unlogged.imaged
    c.requires.early (λ page. (did.stops.unlogged.since page).same.stamp) (add_room (is_imaged c.args.self.now.volume.imaged c.args.item.page) g.K.KeyClass.KEY) refl
    (add_is_short (is_imaged c.args.self.now.volume.imaged c.args.item.page) g.K.KeyClass.KEY short) c.in-Err-Pages.fault (why_pages _ c.in-Err-Pages.field-0 c.in-Err-Pages.fault c.in-Err-Pages.field-0-is did.stops.why)
    c.refuse.new.self c.refuse.result
    (subst (λ (x : Parts g.row.K-Key.Denot g.row.D.Denot). IsRefused c.in-Err-Pages.fault x c.refuse.new.self c.refuse.result) c.add_pair.ensures.only
    (subst (λ (n : StoreFault). IsRefused n c.add_pair.new.self c.refuse.new.self c.refuse.result) c.in-Err-Pages.fault-is c.refuse.ensures.refused))

pub returns-in-Err-Pages-clause-moves : goal.returns-in-Err-Pages-clause-moves
returns-in-Err-Pages-clause-moves g c leaf =
    let old : Parts g.row.K-Key.Denot g.row.D.Denot = c.args.self.now in
    let k = keys g.K.Key.Ord.cmp g.K.Key.Shape.overlap g.K.Key.Shape.inside in
    let kept = subst (λ (x : Parts g.row.K-Key.Denot g.row.D.Denot). IsKept k x.sessions) c.self.view_is c.stands.ensures in
    let did = c.in-Err-Pages.ensures.adds in
    let un = did.stops.unlogged in
    λ l. stopped_moves _ (c.a_class_is_lawful.ensures l) _ _ _ g.D.SectorDisk.state old kept c.requires.works c.args.session c.requires.session c.args.entry _ c.requires.descends
    c.add_pair.new.self.volume un.most un.log (un.since 0).goes_on.device (un.keeps l)
    (add_room (is_imaged old.volume.imaged c.args.item.page) g.K.KeyClass.KEY) c.in-Err-Pages.fault (why_pages _ c.in-Err-Pages.field-0 c.in-Err-Pages.fault c.in-Err-Pages.field-0-is did.stops.why)
    c.refuse.new.self c.refuse.result
    (subst (λ (x : Parts g.row.K-Key.Denot g.row.D.Denot). IsRefused c.in-Err-Pages.fault x c.refuse.new.self c.refuse.result) c.add_pair.ensures.only
    (subst (λ (n : StoreFault). IsRefused n c.add_pair.new.self c.refuse.new.self c.refuse.result) c.in-Err-Pages.fault-is c.refuse.ensures.refused))

pub returns-in-Err-Damaged : goal.returns-in-Err-Damaged
returns-in-Err-Damaged g c =
    let old : Parts g.row.K-Key.Denot g.row.D.Denot = c.args.self.now in
    let k = keys g.K.Key.Ord.cmp g.K.Key.Shape.overlap g.K.Key.Shape.inside in
    let kept = subst (λ (x : Parts g.row.K-Key.Denot g.row.D.Denot). IsKept k x.sessions) c.self.view_is c.stands.ensures in
    let state = g.D.SectorDisk.state in
    let did = c.in-Err-Damaged.ensures.adds in
    let un = did.stops.unlogged in
    let damaged : c.in-Err-Damaged.field-0 ≡ Damaged = search rules in
    record {
      comes =
          lost_comes (λ size. size ≡ add_room (is_imaged c.args.self.now.volume.imaged c.args.item.page) g.K.KeyClass.KEY) ⊥ (λ x y. ⊥) k (is_node (format_of g.K.KeyClass)) state old c.args.session c.args.entry c.add_pair.new.self.volume un.most un.log un.imaged c.break_off.new.self c.break_off.result c.break_off.ensures.outcome
          (c.break_off.ensures.failed ∙ ap (λ (x : Parts g.row.K-Key.Denot g.row.D.Denot). record x { sessions = failed_state x.sessions }) c.add_pair.ensures.only);
      device = then_read g.D.SectorDisk.state c.args.self.now c.add_pair.new.self c.break_off.new.self c.add_pair.ensures.device c.break_off.ensures.device;
      moves = λ leaf l.
          never_added _ (c.a_class_is_lawful.ensures l) _ (format_of g.K.KeyClass) _ (state old.volume.shelf.disk) _ old kept c.args.session c.requires.session c.args.entry c.args.parent c.args.item c.requires.descends
          (λ steady. ((leaf steady).1, (leaf steady).2)) (λ steady. did.damaged steady damaged) c.break_off.new.self c.break_off.result _;
      told =
          quiet_told g.D.SectorDisk.state c.args.self.now c.add_pair.new.self c.break_off.new.self (step_fails store_fails c.in-Err-Damaged.field-0) c.break_off.result _ (ap (λ (x : StepFault StoreFault). step_fails store_fails x) damaged)
          c.in-Err-Damaged.ensures.told (ap (λ (x : Parts g.row.K-Key.Denot g.row.D.Denot). x.volume) c.break_off.ensures.failed) c.break_off.ensures.outcome refl;
    }

pub returns-in-Err-Pages-clause-told : goal.returns-in-Err-Pages-clause-told
returns-in-Err-Pages-clause-told g c =
    pages_told g.D.SectorDisk.state c.args.self.now c.add_pair.new.self c.refuse.new.self c.in-Err-Pages.field-0 c.in-Err-Pages.fault c.refuse.result c.in-Err-Pages.field-0-is c.in-Err-Pages.ensures.told
    c.refuse.ensures.volume (c.refuse.ensures.told ∙ ap (λ (n : StoreFault). store_fails n) c.in-Err-Pages.fault-is)
