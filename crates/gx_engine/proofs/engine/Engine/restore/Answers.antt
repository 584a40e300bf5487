use Rattle.std.proofs.Common.{◌≡◌, ◌∙◌, ap, subst, rules, refl}
use Rattle.std.specs.Cmp.{Equal-is}
use Rattle.gx_machine.specs.Keys.{Members, keys}
use Rattle.gx_phases.specs.States.{IsKept}
use Rattle.gx_store.specs.State.{IsInOrder}
use Rattle.gx_node.specs.declared.fault.StepFault.TheVariants.{Damaged}
use Rattle.gx_phases.specs.Moves.{failed_state}
use Rattle.gx_storage.specs.Imaged.{is_imaged}
use Rattle.gx_storage.specs.Small.{mark_room}
use Rattle.gx_storage.proofs.Recording.{nodes_of}
use Rattle.gx_storage.proofs.SmallMarks.{ReadsMarks}
use Rattle.gx_engine.specs.Refusals.{IsRefused}
use Rattle.gx_node.specs.Reading.{format_of, is_node}
use Rattle.gx_engine.specs.States.{Parts}
use Rattle.gx_engine.proofs.UndoMoves.{never_comes, never_moves, noted_moves, refused_comes, refused_moves, sought_comes, sought_moves, why_pages}
use Rattle.gx_engine.proofs.Failing.{then_told, pages_told, quiet_told}
use Rattle.gx_node.specs.declared.fault.StepFault.{StepFault}
use Rattle.gx_store.specs.declared.fault.StoreFault.{StoreFault}
use Rattle.gx_node.specs.Owner.{step_fails}
use Rattle.gx_store.specs.Faults.{store_fails}
use Rattle.gx_engine.proofs.engine.Engine.restore.Goals as goal

pub returns-in-Ok-clause-comes : goal.returns-in-Ok-clause-comes
returns-in-Ok-clause-comes g c =
    sought_comes c.args.session c.args.self.now c.set_noted.new.self c.note_sought.new.self c.set_noted.ensures.only c.args.note c.requires.next c.args.leaf c.in-Ok.sought
    c.note_sought.ensures.noted c.note_sought.result c.note_sought.ensures.outcome _ _ _ _ _ _ _ _ g.D.SectorDisk.state _ c.in-Ok.ensures.sought

pub returns-in-Ok-clause-moves : goal.returns-in-Ok-clause-moves
returns-in-Ok-clause-moves g c =
    let old : Parts g.row.K-Key.Denot g.row.D.Denot = c.args.self.now in
    let state = g.D.SectorDisk.state in
    let kept = subst (λ (x : Parts g.row.K-Key.Denot g.row.D.Denot). IsKept (keys g.K.Key.Ord.cmp g.K.Key.Shape.overlap g.K.Key.Shape.inside) x.sessions) c.self.view_is c.stands.ensures in
    let order =
    subst (λ (x : Parts g.row.K-Key.Denot g.row.D.Denot). IsInOrder (is_node (format_of g.K.KeyClass) x.volume.shelf.pages) (state x.volume.shelf.disk).sectors x.volume.shelf.frames
    x.volume.shelf.used x.volume.shelf.pages)
    c.self.view_is c.in_order.ensures in
    let shape : Members g.row.K-Key.Denot =
    record { partial_cmp = g.K.Key.PartialOrd.partial_cmp; eq = g.K.Key.PartialEq.eq; cmp = g.K.Key.Ord.cmp; overlap = g.K.Key.Shape.overlap; inside = g.K.Key.Shape.inside } in
    let key = c.args.note.entry.key in
    let marks : ReadsMarks g.K.KeyClass.is_key g.K.KeyClass.spelling (format_of g.K.KeyClass) shape c.most.result =
    record { hold = c.leaves.ensures.hold; long = g.met.K.KeyClass.spelling_length; back = g.met.K.KeyClass.reading_back; exact = λ a b e. g.met.K.Key.Shape.same a b ((Equal-is (g.K.Key.Ord.cmp a b)).0 e); means = c.small_marks.ensures } in
    λ l. noted_moves c.args.session old c.set_noted.new.self c.note_sought.new.self c.set_noted.ensures.only c.args.note c.requires.next c.args.leaf c.in-Ok.sought
    c.note_sought.ensures.noted c.note_sought.result c.note_sought.ensures.outcome _ _ _ _ state (state old.volume.shelf.disk)
    (sought_moves shape g.K.ReadKeys.is_proper l (c.a_class_is_lawful.ensures l) _ _ _ g.K.KeyClass.is_key g.K.KeyClass.spelling g.K.KeyClass.KEY (state old.volume.shelf.disk) (state c.set_noted.new.self.volume.shelf.disk)
    old kept c.requires.works c.args.session c.requires.session c.requires.early c.args.note c.requires.next c.args.leaf c.requires.leaf c.set_noted.new.self.volume
    (c.a_volume_shows_the_logs_tree.ensures l old.volume) (c.a_volume_shows_keys.ensures l old.volume) order
    (nodes_of (format_of g.K.KeyClass) _ _ order) c.most.result marks
    c.known.ensures (g.met.K.ReadKeys.said_back key c.known.ensures) (g.met.K.ReadKeys.key_is_proper key c.known.ensures) c.in-Ok.sought c.in-Ok.ensures.sought)

pub returns-in-Err-Pages-clause-moves : goal.returns-in-Err-Pages-clause-moves
returns-in-Err-Pages-clause-moves g c =
    let old : Parts g.row.K-Key.Denot g.row.D.Denot = c.args.self.now in
    let state = g.D.SectorDisk.state in
    let kept = subst (λ (x : Parts g.row.K-Key.Denot g.row.D.Denot). IsKept (keys g.K.Key.Ord.cmp g.K.Key.Shape.overlap g.K.Key.Shape.inside) x.sessions) c.self.view_is c.stands.ensures in
    let did = c.in-Err-Pages.ensures.sought in
    λ l. refused_moves _ (c.a_class_is_lawful.ensures l) _ _ _ state (state old.volume.shelf.disk) old kept c.requires.works c.args.session c.requires.session c.requires.early
    c.set_noted.new.self.volume did.unlogged.most c.args.note c.requires.next c.args.leaf c.requires.leaf did.unlogged.log (did.unlogged.since 0).goes_on.device (did.unlogged.keeps l)
    (mark_room (is_imaged old.volume.imaged c.args.leaf) g.K.KeyClass.KEY) c.in-Err-Pages.fault (why_pages _ c.in-Err-Pages.field-0 c.in-Err-Pages.fault c.in-Err-Pages.field-0-is did.why) c.refuse.new.self c.refuse.result
    (subst (λ (x : Parts g.row.K-Key.Denot g.row.D.Denot). IsRefused c.in-Err-Pages.fault x c.refuse.new.self c.refuse.result) c.set_noted.ensures.only c.refuse.ensures.refused)

pub returns-in-Err-Damaged-clause-comes : goal.returns-in-Err-Damaged-clause-comes
returns-in-Err-Damaged-clause-comes g c =
    let damaged : c.in-Err-Damaged.field-0 ≡ Damaged = search rules in
    let did = c.in-Err-Damaged.ensures.sought in
    λ restored place. never_comes _ _ _ _ _ _ _ _ g.D.SectorDisk.state _ c.args.session restored c.args.note c.args.leaf c.args.self.now c.set_noted.new.self.volume did.unlogged
    (λ steady. did.damaged steady damaged) c.break_off.new.self c.break_off.result c.break_off.ensures.outcome
    (c.break_off.ensures.failed ∙ ap (λ (x : Parts g.row.K-Key.Denot g.row.D.Denot). record x { sessions = failed_state x.sessions }) c.set_noted.ensures.only)

pub returns-in-Err-Damaged-clause-moves : goal.returns-in-Err-Damaged-clause-moves
returns-in-Err-Damaged-clause-moves g c =
    let old : Parts g.row.K-Key.Denot g.row.D.Denot = c.args.self.now in
    let state = g.D.SectorDisk.state in
    let kept = subst (λ (x : Parts g.row.K-Key.Denot g.row.D.Denot). IsKept (keys g.K.Key.Ord.cmp g.K.Key.Shape.overlap g.K.Key.Shape.inside) x.sessions) c.self.view_is c.stands.ensures in
    let damaged : c.in-Err-Damaged.field-0 ≡ Damaged = search rules in
    let did = c.in-Err-Damaged.ensures.sought in
    λ l. never_moves _ (c.a_class_is_lawful.ensures l) _ _ _ (state old.volume.shelf.disk) (state c.set_noted.new.self.volume.shelf.disk) old kept c.requires.works c.args.session c.requires.session
    c.requires.early c.set_noted.new.self.volume did.unlogged.most c.args.note c.requires.next c.args.leaf c.requires.leaf (c.a_volume_shows_the_logs_tree.ensures l old.volume)
    (λ steady. did.damaged steady damaged) _ c.break_off.new.self c.break_off.result

pub returns-in-Err-Pages-clause-comes : goal.returns-in-Err-Pages-clause-comes
returns-in-Err-Pages-clause-comes g c =
    let did = c.in-Err-Pages.ensures.sought in
    λ restored place. refused_comes _ _ _ _ _ _ _ _ g.D.SectorDisk.state _ c.args.session restored c.args.note c.args.leaf c.args.self.now c.set_noted.new.self.volume did.unlogged
    c.in-Err-Pages.fault (why_pages _ c.in-Err-Pages.field-0 c.in-Err-Pages.fault c.in-Err-Pages.field-0-is did.why) c.refuse.new.self c.refuse.result
    (subst (λ (x : Parts g.row.K-Key.Denot g.row.D.Denot). IsRefused c.in-Err-Pages.fault x c.refuse.new.self c.refuse.result) c.set_noted.ensures.only c.refuse.ensures.refused)

pub returns-in-Ok-clause-told : goal.returns-in-Ok-clause-told
returns-in-Ok-clause-told g c = then_told g.D.SectorDisk.state c.args.self.now c.set_noted.new.self c.note_sought.new.self c.note_sought.result c.in-Ok.ensures.told c.note_sought.ensures.told

pub returns-in-Err-Pages-clause-told : goal.returns-in-Err-Pages-clause-told
returns-in-Err-Pages-clause-told g c =
    pages_told g.D.SectorDisk.state c.args.self.now c.set_noted.new.self c.refuse.new.self c.in-Err-Pages.field-0 c.in-Err-Pages.fault c.refuse.result c.in-Err-Pages.field-0-is c.in-Err-Pages.ensures.told
    c.refuse.ensures.volume c.refuse.ensures.told

pub returns-in-Err-Damaged-clause-told : goal.returns-in-Err-Damaged-clause-told
returns-in-Err-Damaged-clause-told g c =
    let damaged : c.in-Err-Damaged.field-0 ≡ Damaged = search rules in
    quiet_told g.D.SectorDisk.state c.args.self.now c.set_noted.new.self c.break_off.new.self (step_fails store_fails c.in-Err-Damaged.field-0) c.break_off.result _ (ap (λ (x : StepFault StoreFault). step_fails store_fails x) damaged)
    c.in-Err-Damaged.ensures.told (ap (λ (x : Parts g.row.K-Key.Denot g.row.D.Denot). x.volume) c.break_off.ensures.failed) c.break_off.ensures.outcome refl
