use Rattle.std.proofs.Common.{◌≡◌, inr, refl, ◌∙◌, ap, subst, ◌-◌, rules}
use Rattle.std.specs.Cmp.{Equal-is}
use Rattle.gx_machine.specs.Keys.{Members, keys}
use Rattle.gx_node.specs.Reading.{format_of, is_node}
use Rattle.gx_events.specs.declared.outcome.Outcome.{Outcome}
use Rattle.gx_phases.specs.Moves.{failed_state}
use Rattle.gx_phases.specs.States.{IsKept, phase_at}
use Rattle.gx_store.specs.State.{IsInOrder}
use Rattle.gx_node.specs.declared.fault.StepFault.TheVariants.{Damaged}
use Rattle.gx_durable.specs.Classes.{class_of, reading_of}
use Rattle.gx_storage.specs.Imaged.{is_imaged}
use Rattle.gx_storage.specs.Small.{mark_room}
use Rattle.gx_storage.proofs.Recording.{nodes_of}
use Rattle.gx_storage.proofs.SmallMarks.{ReadsMarks}
use Rattle.gx_engine.specs.Moves.{Moves}
use Rattle.gx_engine.specs.Refusals.{IsRefused}
use Rattle.gx_engine.specs.Seeks.{SeekComes, write_call}
use Rattle.gx_engine.specs.States.{Parts}
use Rattle.gx_engine.specs.Writes.{write_events}
use Rattle.gx_engine.proofs.writes.seeks.Joined.{damaged_comes, mark_is_short, noted_so, refused_comes, set_comes}
use Rattle.gx_engine.proofs.writes.seeks.Moves.{never_set, refused_moves, set_moves}
use Rattle.gx_engine.proofs.UndoMoves.{why_pages}
use Rattle.gx_engine.proofs.Failing.{then_told, pages_told, quiet_told}
use Rattle.gx_node.specs.declared.fault.StepFault.{StepFault}
use Rattle.gx_store.specs.declared.fault.StoreFault.{StoreFault}
use Rattle.gx_node.specs.Owner.{step_fails}
use Rattle.gx_store.specs.Faults.{store_fails}
use Rattle.gx_engine.specs.Calls.{outcome_fails}
use Rattle.gx_engine.proofs.engine.Engine.set_found.Goals as goal

pub note_set-requires-clause-seeks : goal.note_set-requires-clause-seeks
note_set-requires-clause-seeks g c =
    ap (λ (x : Parts g.row.K-Key.Denot g.row.D.Denot). phase_at (c.args.session - 1) x.sessions.phases) c.give_mark.ensures.only ∙ c.requires.seeks

pub returns-in-Ok-clause-comes : goal.returns-in-Ok-clause-comes
returns-in-Ok-clause-comes g c =
    let old : Parts g.row.K-Key.Denot g.row.D.Denot = c.args.self.now in
    let state = g.D.SectorDisk.state in
    let k = keys g.K.Key.Ord.cmp g.K.Key.Shape.overlap g.K.Key.Shape.inside in
    let entry = c.args.entry in
    let w = c.give_mark.new.self.volume in
    noted_so k c.args.session entry c.args.leaf c.args.marked c.in-Ok.sought old c.give_mark.new.self c.note_set.new.self c.give_mark.ensures.only c.note_set.ensures.noted c.note_set.result
    c.note_set.ensures.outcome
    (λ (x : Parts g.row.K-Key.Denot g.row.D.Denot) (o : Outcome g.row.K-Key.Denot). SeekComes (format_of g.K.KeyClass) g.K.KeyClass.is_key k g.K.KeyClass.KEY (is_node (format_of g.K.KeyClass))
    (state old.volume.shelf.disk) (state x.volume.shelf.disk)
    c.args.session entry c.args.leaf c.args.marked old x o)
    (set_comes (format_of g.K.KeyClass) g.K.KeyClass.is_key k (is_node (format_of g.K.KeyClass)) (state old.volume.shelf.disk) (state w.shelf.disk) c.args.session entry c.args.leaf c.args.marked old w
    _ _ _ _ _ _ c.in-Ok.sought c.in-Ok.ensures.sought)

pub returns-in-Ok-clause-moves : goal.returns-in-Ok-clause-moves
returns-in-Ok-clause-moves g c =
    let old : Parts g.row.K-Key.Denot g.row.D.Denot = c.args.self.now in
    let state = g.D.SectorDisk.state in
    let k = keys g.K.Key.Ord.cmp g.K.Key.Shape.overlap g.K.Key.Shape.inside in
    let kept = subst (λ (x : Parts g.row.K-Key.Denot g.row.D.Denot). IsKept k x.sessions) c.self.view_is c.stands.ensures in
    let order =
    subst (λ (x : Parts g.row.K-Key.Denot g.row.D.Denot). IsInOrder (is_node (format_of g.K.KeyClass) x.volume.shelf.pages) (state x.volume.shelf.disk).sectors x.volume.shelf.frames
    x.volume.shelf.used x.volume.shelf.pages)
    c.self.view_is c.in_order.ensures in
    let shape : Members g.row.K-Key.Denot =
    record { partial_cmp = g.K.Key.PartialOrd.partial_cmp; eq = g.K.Key.PartialEq.eq; cmp = g.K.Key.Ord.cmp; overlap = g.K.Key.Shape.overlap; inside = g.K.Key.Shape.inside } in
    let entry = c.args.entry in
    let key = c.args.entry.key in
    let w = c.give_mark.new.self.volume in
    let marks : ReadsMarks g.K.KeyClass.is_key g.K.KeyClass.spelling (format_of g.K.KeyClass) shape c.most.result =
    record { hold = c.leaves.ensures.hold; long = g.met.K.KeyClass.spelling_length; back = g.met.K.KeyClass.reading_back; exact = λ a b e. g.met.K.Key.Shape.same a b ((Equal-is (g.K.Key.Ord.cmp a b)).0 e); means = c.small_marks.ensures } in
    λ l. noted_so k c.args.session entry c.args.leaf c.args.marked c.in-Ok.sought old c.give_mark.new.self c.note_set.new.self c.give_mark.ensures.only c.note_set.ensures.noted
    c.note_set.result c.note_set.ensures.outcome
    (λ (x : Parts g.row.K-Key.Denot g.row.D.Denot) (o : Outcome g.row.K-Key.Denot). Moves (class_of shape g.K.ReadKeys.is_proper l) (reading_of g.K.ReadKeys.said (format_of g.K.KeyClass))
    (format_of g.K.KeyClass) (is_node (format_of g.K.KeyClass))
    (state old.volume.shelf.disk) (state x.volume.shelf.disk) c.args.session old x o (write_events c.args.session (write_call c.args.marked entry) o))
    (set_moves shape g.K.ReadKeys.is_proper l (c.a_class_is_lawful.ensures l) g.K.ReadKeys.said (format_of g.K.KeyClass) (is_node (format_of g.K.KeyClass)) g.K.KeyClass.is_key
    g.K.KeyClass.spelling g.K.KeyClass.KEY
    (state old.volume.shelf.disk) (state w.shelf.disk) old kept c.requires.works c.args.session c.requires.session c.requires.early entry c.args.leaf c.args.marked c.requires.seeks w
    (c.a_volume_shows_the_logs_tree.ensures l old.volume) (c.a_volume_shows_keys.ensures l old.volume) order
    (nodes_of (format_of g.K.KeyClass) _ _ order) c.most.result marks
    c.known.ensures (g.met.K.ReadKeys.said_back key c.known.ensures) (g.met.K.ReadKeys.key_is_proper key c.known.ensures) c.requires.found.0 c.requires.found.1 c.in-Ok.sought c.in-Ok.ensures.sought)

pub returns-in-Err-Pages-clause-comes : goal.returns-in-Err-Pages-clause-comes
returns-in-Err-Pages-clause-comes g c =
    let did = c.in-Err-Pages.ensures.sought in
    let refused : IsRefused c.in-Err-Pages.fault c.give_mark.new.self c.refuse.new.self c.refuse.result = search rules in
    let short = g.met.K.KeyClass.key_is_short in
    let k = keys g.K.Key.Ord.cmp g.K.Key.Shape.overlap g.K.Key.Shape.inside in
    refused_comes c.args.self.now c.give_mark.new.self.volume did.unlogged.log did.unlogged.most did.unlogged.imaged (format_of g.K.KeyClass) g.K.KeyClass.is_key k g.K.KeyClass.KEY (is_node (format_of
    g.K.KeyClass)) g.D.SectorDisk.state _
    c.args.session c.args.entry c.args.leaf c.args.marked (λ page. (did.unlogged.since page).same.stamp) (mark_room (is_imaged c.args.self.now.volume.imaged c.args.leaf) g.K.KeyClass.KEY) (inr refl) (mark_is_short (is_imaged c.args.self.now.volume.imaged c.args.leaf) g.K.KeyClass.KEY short) c.in-Err-Pages.fault
    (λ room. c.requires.early)
    (why_pages _ c.in-Err-Pages.field-0 c.in-Err-Pages.fault c.in-Err-Pages.field-0-is did.why) c.refuse.new.self c.refuse.result
    (subst (λ (x : Parts g.row.K-Key.Denot g.row.D.Denot). IsRefused c.in-Err-Pages.fault x c.refuse.new.self c.refuse.result) c.give_mark.ensures.only refused)

pub returns-in-Err-Pages-clause-moves : goal.returns-in-Err-Pages-clause-moves
returns-in-Err-Pages-clause-moves g c =
    let old : Parts g.row.K-Key.Denot g.row.D.Denot = c.args.self.now in
    let state = g.D.SectorDisk.state in
    let kept = subst (λ (x : Parts g.row.K-Key.Denot g.row.D.Denot). IsKept (keys g.K.Key.Ord.cmp g.K.Key.Shape.overlap g.K.Key.Shape.inside) x.sessions) c.self.view_is c.stands.ensures in
    let did = c.in-Err-Pages.ensures.sought in
    let refused : IsRefused c.in-Err-Pages.fault c.give_mark.new.self c.refuse.new.self c.refuse.result = search rules in
    λ l. refused_moves _ (c.a_class_is_lawful.ensures l) _ _ _ (state old.volume.shelf.disk) old kept c.requires.works c.args.session c.requires.session c.args.entry c.args.leaf
    c.args.marked c.requires.seeks state
    c.give_mark.new.self.volume did.unlogged.most did.unlogged.log (did.unlogged.since 0).goes_on.device (did.unlogged.keeps l)
    (mark_room (is_imaged old.volume.imaged c.args.leaf) g.K.KeyClass.KEY) c.in-Err-Pages.fault (why_pages _ c.in-Err-Pages.field-0 c.in-Err-Pages.fault c.in-Err-Pages.field-0-is did.why) c.refuse.new.self c.refuse.result
    (subst (λ (x : Parts g.row.K-Key.Denot g.row.D.Denot). IsRefused c.in-Err-Pages.fault x c.refuse.new.self c.refuse.result) c.give_mark.ensures.only refused)

pub returns-in-Err-Damaged-clause-comes : goal.returns-in-Err-Damaged-clause-comes
returns-in-Err-Damaged-clause-comes g c =
    let did = c.in-Err-Damaged.ensures.sought in
    let k = keys g.K.Key.Ord.cmp g.K.Key.Shape.overlap g.K.Key.Shape.inside in
    damaged_comes c.args.self.now c.give_mark.new.self.volume did.unlogged.log did.unlogged.most did.unlogged.imaged (format_of g.K.KeyClass) g.K.KeyClass.is_key k g.K.KeyClass.KEY (is_node (format_of
    g.K.KeyClass)) g.D.SectorDisk.state _
    c.args.session c.args.entry c.args.leaf c.args.marked c.break_off.new.self c.break_off.result c.break_off.ensures.outcome
    (c.break_off.ensures.failed ∙ ap (λ (x : Parts g.row.K-Key.Denot g.row.D.Denot). record x { sessions = failed_state x.sessions }) c.give_mark.ensures.only)

pub returns-in-Err-Damaged-clause-moves : goal.returns-in-Err-Damaged-clause-moves
returns-in-Err-Damaged-clause-moves g c =
    let old : Parts g.row.K-Key.Denot g.row.D.Denot = c.args.self.now in
    let state = g.D.SectorDisk.state in
    let kept = subst (λ (x : Parts g.row.K-Key.Denot g.row.D.Denot). IsKept (keys g.K.Key.Ord.cmp g.K.Key.Shape.overlap g.K.Key.Shape.inside) x.sessions) c.self.view_is c.stands.ensures in
    let damaged : c.in-Err-Damaged.field-0 ≡ Damaged = search rules in
    let did = c.in-Err-Damaged.ensures.sought in
    λ l. never_set _ (c.a_class_is_lawful.ensures l) _ _ _ (state old.volume.shelf.disk) old kept c.requires.works c.args.session c.requires.session c.args.entry c.args.leaf c.args.marked
    c.requires.seeks
    (c.a_volume_shows_the_logs_tree.ensures l old.volume) (λ steady. did.damaged steady damaged) _ c.break_off.new.self c.break_off.result _

pub returns-in-Ok-clause-told : goal.returns-in-Ok-clause-told
returns-in-Ok-clause-told g c = then_told g.D.SectorDisk.state c.args.self.now c.give_mark.new.self c.note_set.new.self c.note_set.result c.in-Ok.ensures.told c.note_set.ensures.told

pub returns-in-Err-Pages-clause-told : goal.returns-in-Err-Pages-clause-told
returns-in-Err-Pages-clause-told g c =
    let says : outcome_fails c.refuse.result ≡ store_fails c.in-Err-Pages.fault = search rules in
    let same : c.refuse.new.self.volume ≡ c.give_mark.new.self.volume = search rules in
    pages_told g.D.SectorDisk.state c.args.self.now c.give_mark.new.self c.refuse.new.self c.in-Err-Pages.field-0 c.in-Err-Pages.fault c.refuse.result c.in-Err-Pages.field-0-is c.in-Err-Pages.ensures.told
    same says

pub returns-in-Err-Damaged-clause-told : goal.returns-in-Err-Damaged-clause-told
returns-in-Err-Damaged-clause-told g c =
    let damaged : c.in-Err-Damaged.field-0 ≡ Damaged = search rules in
    quiet_told g.D.SectorDisk.state c.args.self.now c.give_mark.new.self c.break_off.new.self (step_fails store_fails c.in-Err-Damaged.field-0) c.break_off.result _ (ap (λ (x : StepFault StoreFault). step_fails store_fails x) damaged)
    c.in-Err-Damaged.ensures.told (ap (λ (x : Parts g.row.K-Key.Denot g.row.D.Denot). x.volume) c.break_off.ensures.failed) c.break_off.ensures.outcome refl
