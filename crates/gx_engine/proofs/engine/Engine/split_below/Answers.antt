use Rattle.std.proofs.Common.{◌≡◌, ◌-◌, ◌∙◌, ap, refl, subst, arith, rules}
use Rattle.gx_machine.specs.declared.call.Call.TheVariants.{Insert}
use Rattle.gx_machine.specs.Keys.{Members, keys}
use Rattle.gx_node.specs.Reading.{format_of, is_node}
use Rattle.gx_durable.specs.Classes.{class_of, reading_of}
use Rattle.gx_node.specs.declared.fault.SplitFault.TheVariants.{PagesFull, Step}
use Rattle.gx_node.specs.declared.fault.StepFault.TheVariants.{Damaged}
use Rattle.gx_node.specs.Keyed.{rules_of}
use Rattle.gx_phases.specs.Moves.{failed_state}
use Rattle.gx_phases.specs.States.{IsKept, phase_at}
use Rattle.gx_store.specs.declared.fault.StoreFault.{StoreFault}
use Rattle.gx_record.specs.declared.sizes.TheConstants.{SPLIT_RECORD}
use Rattle.gx_engine.specs.declared.work.Work.TheVariants.{Descends}
use Rattle.gx_engine.specs.Moves.{Moves}
use Rattle.gx_engine.specs.Refusals.{IsRefused}
use Rattle.gx_engine.specs.States.{Parts}
use Rattle.gx_engine.specs.Writes.{LeftFew, write_events}
use Rattle.gx_engine.proofs.writes.descents.MakingRoom.{few_below, full_comes, full_is, full_moves, never_split, on_comes, on_is, split_any, split_most}
use Rattle.gx_engine.proofs.writes.descents.Stopping.{lost_comes, stopped_comes, stopped_moves}
use Rattle.gx_engine.proofs.UndoMoves.{why_split_pages}
use Rattle.gx_engine.proofs.Calling.{then_read}
use Rattle.gx_engine.proofs.Failing.{then_told, split_pages_told, quiet_told}
use Rattle.gx_node.specs.declared.fault.SplitFault.{SplitFault}
use Rattle.gx_node.specs.Owner.{split_fails}
use Rattle.gx_store.specs.Faults.{store_fails}
use Rattle.gx_engine.proofs.engine.Engine.split_below.Goals as goal

pub returns-in-Ok-clause-comes : goal.returns-in-Ok-clause-comes
returns-in-Ok-clause-comes g c entry at =
    let old : Parts g.row.K-Key.Denot g.row.D.Denot = c.args.self.now in
    let k = keys g.K.Key.Ord.cmp g.K.Key.Shape.overlap g.K.Key.Shape.inside in
    let state = g.D.SectorDisk.state in
    let shape : Members g.row.K-Key.Denot =
    record { partial_cmp = g.K.Key.PartialOrd.partial_cmp; eq = g.K.Key.PartialEq.eq; cmp = g.K.Key.Ord.cmp; overlap = g.K.Key.Shape.overlap; inside = g.K.Key.Shape.inside } in
    let there = c.begin_again.ensures.there (Insert entry) (Descends c.args.parent c.args.item)
    (ap (λ (x : Parts g.row.K-Key.Denot g.row.D.Denot). phase_at (c.args.session - 1) x.sessions.phases) c.split_node.ensures.only ∙ at) in
    on_comes c.args.session (Insert entry) 0 (record { page = 1; seen = c.split_node.new.self.volume.shelf.counter }) old c.split_node.new.self c.begin_again.new.self c.split_node.ensures.only there c.begin_again.result c.begin_again.ensures.outcome
    (λ size. size ≡ SPLIT_RECORD) (LeftFew (state old.volume.shelf.disk) old c.args.item.page) (λ x y. Unit {0}) k (is_node (format_of g.K.KeyClass)) state (split_most shape g.K.ReadKeys.is_proper g.K.ReadKeys.said (format_of g.K.KeyClass) (is_node (format_of g.K.KeyClass)) g.K.KeyClass.sides_of
    (state old.volume.shelf.disk) (state c.split_node.new.self.volume.shelf.disk) old c.split_node.new.self.volume c.args.parent c.args.item c.in-Ok.field-0 c.in-Ok.ensures.splits) tt

pub returns-in-Ok-clause-moves : goal.returns-in-Ok-clause-moves
returns-in-Ok-clause-moves g c entry at full l =
    let old : Parts g.row.K-Key.Denot g.row.D.Denot = c.args.self.now in
    let k = keys g.K.Key.Ord.cmp g.K.Key.Shape.overlap g.K.Key.Shape.inside in
    let state = g.D.SectorDisk.state in
    let kept = subst (λ (x : Parts g.row.K-Key.Denot g.row.D.Denot). IsKept k x.sessions) c.self.view_is c.stands.ensures in
    let shape : Members g.row.K-Key.Denot =
    record { partial_cmp = g.K.Key.PartialOrd.partial_cmp; eq = g.K.Key.PartialEq.eq; cmp = g.K.Key.Ord.cmp; overlap = g.K.Key.Shape.overlap; inside = g.K.Key.Shape.inside } in
    let there = c.begin_again.ensures.there (Insert entry) (Descends c.args.parent c.args.item)
    (ap (λ (x : Parts g.row.K-Key.Denot g.row.D.Denot). phase_at (c.args.session - 1) x.sessions.phases) c.split_node.ensures.only ∙ at) in
    on_is c.args.session (Insert entry) 0 (record { page = 1; seen = c.split_node.new.self.volume.shelf.counter }) old c.split_node.new.self c.begin_again.new.self c.split_node.ensures.only there c.begin_again.result c.begin_again.ensures.outcome
    (λ x y. Moves (class_of shape g.K.ReadKeys.is_proper l) (reading_of g.K.ReadKeys.said (format_of g.K.KeyClass)) (format_of g.K.KeyClass) (is_node (format_of g.K.KeyClass))
    (state old.volume.shelf.disk) (state x.volume.shelf.disk) c.args.session old x y (write_events c.args.session (Insert entry) y))
    (split_any shape g.K.ReadKeys.is_proper g.K.ReadKeys.said (format_of g.K.KeyClass) (is_node (format_of g.K.KeyClass)) g.K.KeyClass.sides_of
    (state old.volume.shelf.disk) (state c.split_node.new.self.volume.shelf.disk) old c.split_node.new.self.volume c.args.parent c.args.item l (c.a_class_is_lawful.ensures l) kept c.requires.works
    c.args.session c.requires.session c.requires.early entry at c.split_node.ensures.fits.0 c.requires.below c.in-Ok.field-0 c.in-Ok.ensures.splits)

pub returns-in-Err-Step-Pages-clause-comes : goal.returns-in-Err-Step-Pages-clause-comes
returns-in-Err-Step-Pages-clause-comes g c entry at =
    let old : Parts g.row.K-Key.Denot g.row.D.Denot = c.args.self.now in
    let k = keys g.K.Key.Ord.cmp g.K.Key.Shape.overlap g.K.Key.Shape.inside in
    let state = g.D.SectorDisk.state in
    let did = c.in-Err-Step-Pages.ensures.splits in
    stopped_comes (λ size. size ≡ SPLIT_RECORD) (LeftFew (state old.volume.shelf.disk) old c.args.item.page) (λ x y. Unit {0}) k (is_node (format_of g.K.KeyClass)) state old c.args.session entry c.split_node.new.self.volume did.unlogged.most did.unlogged.log did.unlogged.imaged
    c.requires.early (λ page. (did.unlogged.since page).same.stamp) SPLIT_RECORD refl (omega arith) c.in-Err-Step-Pages.fault (why_split_pages _ c.in-Err-Step-Pages.field-0 c.in-Err-Step-Pages.field-0-0 c.in-Err-Step-Pages.fault c.in-Err-Step-Pages.field-0-is c.in-Err-Step-Pages.field-0-0-is did.why)
    c.refuse.new.self c.refuse.result
    (subst (λ (x : Parts g.row.K-Key.Denot g.row.D.Denot). IsRefused c.in-Err-Step-Pages.fault x c.refuse.new.self c.refuse.result) c.split_node.ensures.only
    (subst (λ (n : StoreFault). IsRefused n c.split_node.new.self c.refuse.new.self c.refuse.result) c.in-Err-Step-Pages.fault-is c.refuse.ensures.refused))

pub returns-in-Err-Step-Pages-clause-moves : goal.returns-in-Err-Step-Pages-clause-moves
returns-in-Err-Step-Pages-clause-moves g c entry at full =
    let old : Parts g.row.K-Key.Denot g.row.D.Denot = c.args.self.now in
    let k = keys g.K.Key.Ord.cmp g.K.Key.Shape.overlap g.K.Key.Shape.inside in
    let state = g.D.SectorDisk.state in
    let kept = subst (λ (x : Parts g.row.K-Key.Denot g.row.D.Denot). IsKept k x.sessions) c.self.view_is c.stands.ensures in
    let did = c.in-Err-Step-Pages.ensures.splits in
    let un = did.unlogged in
    λ l. stopped_moves _ (c.a_class_is_lawful.ensures l) _ _ _ state old kept c.requires.works c.args.session c.requires.session entry _ at
    c.split_node.new.self.volume un.most un.log (un.since 0).goes_on.device (un.keeps l)
    SPLIT_RECORD c.in-Err-Step-Pages.fault (why_split_pages _ c.in-Err-Step-Pages.field-0 c.in-Err-Step-Pages.field-0-0 c.in-Err-Step-Pages.fault c.in-Err-Step-Pages.field-0-is c.in-Err-Step-Pages.field-0-0-is did.why)
    c.refuse.new.self c.refuse.result
    (subst (λ (x : Parts g.row.K-Key.Denot g.row.D.Denot). IsRefused c.in-Err-Step-Pages.fault x c.refuse.new.self c.refuse.result) c.split_node.ensures.only
    (subst (λ (n : StoreFault). IsRefused n c.split_node.new.self c.refuse.new.self c.refuse.result) c.in-Err-Step-Pages.fault-is c.refuse.ensures.refused))

pub returns-in-Err-PagesFull-clause-comes : goal.returns-in-Err-PagesFull-clause-comes
returns-in-Err-PagesFull-clause-comes g c entry at =
    let old : Parts g.row.K-Key.Denot g.row.D.Denot = c.args.self.now in
    let k = keys g.K.Key.Ord.cmp g.K.Key.Shape.overlap g.K.Key.Shape.inside in
    let state = g.D.SectorDisk.state in
    let did = c.in-Err-PagesFull.ensures.splits in
    let full : c.in-Err-PagesFull.field-0 ≡ PagesFull = search rules in
    full_comes c.args.session old c.split_node.new.self c.close.new.self c.split_node.ensures.only c.close.ensures.closed c.close.result c.close.ensures.outcome
    (λ size. size ≡ SPLIT_RECORD) (LeftFew (state old.volume.shelf.disk) old c.args.item.page) (λ x y. Unit {0}) k (is_node (format_of g.K.KeyClass)) state (Insert entry) did.unlogged.most did.unlogged.log did.unlogged.imaged
    (few_below (state old.volume.shelf.disk) old c.args.item.page c.requires.below (λ steady. did.full steady full))

pub returns-in-Err-PagesFull-clause-moves : goal.returns-in-Err-PagesFull-clause-moves
returns-in-Err-PagesFull-clause-moves g c entry at full l =
    let old : Parts g.row.K-Key.Denot g.row.D.Denot = c.args.self.now in
    let k = keys g.K.Key.Ord.cmp g.K.Key.Shape.overlap g.K.Key.Shape.inside in
    let state = g.D.SectorDisk.state in
    let kept = subst (λ (x : Parts g.row.K-Key.Denot g.row.D.Denot). IsKept k x.sessions) c.self.view_is c.stands.ensures in
    let shape : Members g.row.K-Key.Denot =
    record { partial_cmp = g.K.Key.PartialOrd.partial_cmp; eq = g.K.Key.PartialEq.eq; cmp = g.K.Key.Ord.cmp; overlap = g.K.Key.Shape.overlap; inside = g.K.Key.Shape.inside } in
    let un = c.in-Err-PagesFull.ensures.splits.unlogged in
    full_is c.args.session old c.split_node.new.self c.close.new.self c.split_node.ensures.only c.close.ensures.closed c.close.result c.close.ensures.outcome
    (λ x y. Moves (class_of shape g.K.ReadKeys.is_proper l) (reading_of g.K.ReadKeys.said (format_of g.K.KeyClass)) (format_of g.K.KeyClass) (is_node (format_of g.K.KeyClass))
    (state old.volume.shelf.disk) (state x.volume.shelf.disk) c.args.session old x y (write_events c.args.session (Insert entry) y))
    (full_moves _ (c.a_class_is_lawful.ensures l) g.K.ReadKeys.said (format_of g.K.KeyClass) (is_node (format_of g.K.KeyClass)) (state old.volume.shelf.disk)
    (state c.split_node.new.self.volume.shelf.disk) old kept c.requires.works c.args.session c.requires.session c.requires.early entry c.args.parent c.args.item at
    c.split_node.new.self.volume un.most un.log (un.since 0).goes_on.device (un.keeps l))

pub returns-in-Err-Step-Damaged-clause-comes : goal.returns-in-Err-Step-Damaged-clause-comes
returns-in-Err-Step-Damaged-clause-comes g c entry at =
    let old : Parts g.row.K-Key.Denot g.row.D.Denot = c.args.self.now in
    let k = keys g.K.Key.Ord.cmp g.K.Key.Shape.overlap g.K.Key.Shape.inside in
    let state = g.D.SectorDisk.state in
    let un = c.in-Err-Step-Damaged.ensures.splits.unlogged in
    lost_comes (λ size. size ≡ SPLIT_RECORD) (LeftFew (state old.volume.shelf.disk) old c.args.item.page) (λ x y. Unit {0}) k (is_node (format_of g.K.KeyClass)) state old c.args.session entry c.split_node.new.self.volume un.most un.log un.imaged c.break_off.new.self c.break_off.result c.break_off.ensures.outcome
    (c.break_off.ensures.failed ∙ ap (λ (x : Parts g.row.K-Key.Denot g.row.D.Denot). record x { sessions = failed_state x.sessions }) c.split_node.ensures.only)

pub returns-in-Err-Step-Damaged-clause-moves : goal.returns-in-Err-Step-Damaged-clause-moves
returns-in-Err-Step-Damaged-clause-moves g c entry at full l =
    let old : Parts g.row.K-Key.Denot g.row.D.Denot = c.args.self.now in
    let k = keys g.K.Key.Ord.cmp g.K.Key.Shape.overlap g.K.Key.Shape.inside in
    let state = g.D.SectorDisk.state in
    let kept = subst (λ (x : Parts g.row.K-Key.Denot g.row.D.Denot). IsKept k x.sessions) c.self.view_is c.stands.ensures in
    let shape : Members g.row.K-Key.Denot =
    record { partial_cmp = g.K.Key.PartialOrd.partial_cmp; eq = g.K.Key.PartialEq.eq; cmp = g.K.Key.Ord.cmp; overlap = g.K.Key.Shape.overlap; inside = g.K.Key.Shape.inside } in
    let did = c.in-Err-Step-Damaged.ensures.splits in
    let un = did.unlogged in
    let damaged : c.in-Err-Step-Damaged.field-0 ≡ Step Damaged = search rules in
    let few = c.split_node.ensures.fits.1 in
    let same = (un.since 0).goes_on.pages in
    never_split _ (c.a_class_is_lawful.ensures l) g.K.ReadKeys.said (format_of g.K.KeyClass) (is_node (format_of g.K.KeyClass)) (state old.volume.shelf.disk) _
    old kept c.requires.works c.args.session c.requires.session c.requires.early entry c.args.parent c.args.item at c.split_node.new.self.volume un.most (rules_of shape) refl
    (omega (arith, few, same)) full c.requires.below (λ steady. did.damaged steady damaged) c.break_off.new.self c.break_off.result _

pub returns-in-Ok-clause-device : goal.returns-in-Ok-clause-device
returns-in-Ok-clause-device g c = then_read g.D.SectorDisk.state c.args.self.now c.split_node.new.self c.begin_again.new.self c.split_node.ensures.device c.begin_again.ensures.device

pub returns-in-Ok-clause-told : goal.returns-in-Ok-clause-told
returns-in-Ok-clause-told g c = then_told g.D.SectorDisk.state c.args.self.now c.split_node.new.self c.begin_again.new.self c.begin_again.result c.in-Ok.ensures.told c.begin_again.ensures.told

pub returns-in-Err-Step-Pages-clause-told : goal.returns-in-Err-Step-Pages-clause-told
returns-in-Err-Step-Pages-clause-told g c =
    split_pages_told g.D.SectorDisk.state c.args.self.now c.split_node.new.self c.refuse.new.self c.in-Err-Step-Pages.field-0 c.in-Err-Step-Pages.field-0-0 c.in-Err-Step-Pages.fault c.refuse.result
    c.in-Err-Step-Pages.field-0-is c.in-Err-Step-Pages.field-0-0-is c.in-Err-Step-Pages.ensures.told c.refuse.ensures.volume
    (c.refuse.ensures.told ∙ ap (λ (n : StoreFault). store_fails n) c.in-Err-Step-Pages.fault-is)

pub returns-in-Err-PagesFull-clause-told : goal.returns-in-Err-PagesFull-clause-told
returns-in-Err-PagesFull-clause-told g c =
    let full : c.in-Err-PagesFull.field-0 ≡ PagesFull = search rules in
    quiet_told g.D.SectorDisk.state c.args.self.now c.split_node.new.self c.close.new.self (split_fails store_fails c.in-Err-PagesFull.field-0) c.close.result _ (ap (λ (x : SplitFault StoreFault). split_fails store_fails x) full)
    c.in-Err-PagesFull.ensures.told (ap (λ (x : Parts g.row.K-Key.Denot g.row.D.Denot). x.volume) c.close.ensures.closed) c.close.ensures.outcome refl

pub returns-in-Err-Step-Damaged-clause-told : goal.returns-in-Err-Step-Damaged-clause-told
returns-in-Err-Step-Damaged-clause-told g c =
    let damaged : c.in-Err-Step-Damaged.field-0 ≡ Step Damaged = search rules in
    quiet_told g.D.SectorDisk.state c.args.self.now c.split_node.new.self c.break_off.new.self (split_fails store_fails c.in-Err-Step-Damaged.field-0) c.break_off.result _ (ap (λ (x : SplitFault StoreFault). split_fails store_fails x) damaged)
    c.in-Err-Step-Damaged.ensures.told (ap (λ (x : Parts g.row.K-Key.Denot g.row.D.Denot). x.volume) c.break_off.ensures.failed) c.break_off.ensures.outcome refl
