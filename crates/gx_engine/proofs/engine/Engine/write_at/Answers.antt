use Rattle.std.proofs.Common.{◌≡◌, inl, refl, ◌∙◌, ap, subst, ◌-◌, arith, rules}
use Rattle.gx_machine.specs.Keys.{Members, keys}
use Rattle.gx_node.specs.Reading.{format_of, is_node}
use Rattle.gx_durable.specs.Classes.{class_of, reading_of}
use Rattle.gx_phases.specs.Moves.{failed_state}
use Rattle.gx_phases.specs.States.{IsKept, phase_at}
use Rattle.gx_node.specs.declared.fault.StepFault.TheVariants.{Damaged}
use Rattle.gx_engine.specs.Moves.{Moves}
use Rattle.gx_engine.specs.Refusals.{IsRefused}
use Rattle.gx_engine.specs.Seeks.{SeekComes, write_call}
use Rattle.gx_engine.specs.States.{Parts}
use Rattle.gx_engine.specs.Writes.{write_events}
use Rattle.gx_engine.proofs.Calling.{then_read}
use Rattle.gx_engine.proofs.RoomMade.{stays_used}
use Rattle.gx_engine.proofs.writes.seeks.Joined.{comes_on, damaged_comes, no_room, refused_comes, why_begun}
use Rattle.gx_engine.proofs.writes.seeks.Moves.{moves_on, never_moves, refused_moves}
use Rattle.gx_engine.proofs.UndoMoves.{why_pages}
use Rattle.gx_engine.proofs.Failing.{then_told, pages_told, quiet_told}
use Rattle.gx_node.specs.declared.fault.StepFault.{StepFault}
use Rattle.gx_store.specs.declared.fault.StoreFault.{StoreFault}
use Rattle.gx_node.specs.Owner.{step_fails}
use Rattle.gx_store.specs.Faults.{store_fails}
use Rattle.gx_engine.specs.Calls.{outcome_fails}
use Rattle.gx_engine.proofs.engine.Engine.write_at.Goals as goal

pub write_sought-requires-clause-seeks : goal.write_sought-requires-clause-seeks
write_sought-requires-clause-seeks g c =
    ap (λ (x : Parts g.row.K-Key.Denot g.row.D.Denot). phase_at (c.args.session - 1) x.sessions.phases) c.seek_pair.ensures.only ∙ c.requires.seeks

pub returns-in-Ok-clause-comes : goal.returns-in-Ok-clause-comes
returns-in-Ok-clause-comes g c =
    let old : Parts g.row.K-Key.Denot g.row.D.Denot = c.args.self.now in
    let state = g.D.SectorDisk.state in
    let k = keys g.K.Key.Ord.cmp g.K.Key.Shape.overlap g.K.Key.Shape.inside in
    let did = c.seek_pair.ensures.unlogged in
    let w = c.seek_pair.new.self.volume in
    let new = c.write_sought.new.self in
    comes_on old w did.log did.most did.imaged (format_of g.K.KeyClass) g.K.KeyClass.is_key k g.K.KeyClass.KEY (is_node (format_of g.K.KeyClass)) (λ page. (did.since page).same.stamp) (state old.volume.shelf.disk) (state w.shelf.disk) (state new.volume.shelf.disk)
    (did.since 0).goes_on.faults (did.since 0).goes_on.steady
    (stays_used (format_of g.K.KeyClass) (state old.volume.shelf.disk).seen (state w.shelf.disk).seen old.volume.shelf w.shelf _ c.seek_pair.ensures.stays) c.args.session c.args.entry c.args.leaf c.args.marked new c.write_sought.result
    (subst (λ (x : Parts g.row.K-Key.Denot g.row.D.Denot). SeekComes (format_of g.K.KeyClass) g.K.KeyClass.is_key k g.K.KeyClass.KEY (is_node (format_of g.K.KeyClass)) (state w.shelf.disk)
    (state new.volume.shelf.disk)
    c.args.session c.args.entry c.args.leaf c.args.marked x new c.write_sought.result) c.seek_pair.ensures.only c.write_sought.ensures.comes)

pub returns-in-Ok-clause-moves : goal.returns-in-Ok-clause-moves
returns-in-Ok-clause-moves g c =
    let old : Parts g.row.K-Key.Denot g.row.D.Denot = c.args.self.now in
    let state = g.D.SectorDisk.state in
    let k = keys g.K.Key.Ord.cmp g.K.Key.Shape.overlap g.K.Key.Shape.inside in
    let kept = subst (λ (x : Parts g.row.K-Key.Denot g.row.D.Denot). IsKept k x.sessions) c.self.view_is c.stands.ensures in
    let shape : Members g.row.K-Key.Denot =
    record { partial_cmp = g.K.Key.PartialOrd.partial_cmp; eq = g.K.Key.PartialEq.eq; cmp = g.K.Key.Ord.cmp; overlap = g.K.Key.Shape.overlap; inside = g.K.Key.Shape.inside } in
    let did = c.seek_pair.ensures.unlogged in
    let w = c.seek_pair.new.self.volume in
    let new = c.write_sought.new.self in
    let events = write_events c.args.session (write_call c.args.marked c.args.entry) c.write_sought.result in
    λ l. moves_on (class_of shape g.K.ReadKeys.is_proper l) (c.a_class_is_lawful.ensures l) (reading_of g.K.ReadKeys.said (format_of g.K.KeyClass)) (format_of g.K.KeyClass) (is_node
    (format_of g.K.KeyClass))
    (state old.volume.shelf.disk) old kept c.requires.works c.args.session c.requires.session c.args.entry c.args.leaf c.args.marked
    c.requires.seeks state w did.most did.log (did.since 0).goes_on.device (did.keeps l)
    new (state new.volume.shelf.disk) c.write_sought.result events
    (subst (λ (x : Parts g.row.K-Key.Denot g.row.D.Denot). Moves (class_of shape g.K.ReadKeys.is_proper l) (reading_of g.K.ReadKeys.said (format_of g.K.KeyClass)) (format_of g.K.KeyClass)
    (is_node (format_of g.K.KeyClass))
    (state w.shelf.disk) (state new.volume.shelf.disk) c.args.session x new c.write_sought.result events) c.seek_pair.ensures.only (c.write_sought.ensures.moves l))

pub returns-in-Err-Pages-clause-comes : goal.returns-in-Err-Pages-clause-comes
returns-in-Err-Pages-clause-comes g c =
    let state = g.D.SectorDisk.state in
    let did = c.seek_pair.ensures.unlogged in
    let refused : IsRefused c.in-Err-Pages.fault c.seek_pair.new.self c.refuse.new.self c.refuse.result = search rules in
    let k = keys g.K.Key.Ord.cmp g.K.Key.Shape.overlap g.K.Key.Shape.inside in
    let why = why_pages _ c.in-Err-Pages.field-0 c.in-Err-Pages.fault c.in-Err-Pages.field-0-is c.in-Err-Pages.ensures.refused.why in
    refused_comes c.args.self.now c.seek_pair.new.self.volume did.log did.most did.imaged (format_of g.K.KeyClass) g.K.KeyClass.is_key k g.K.KeyClass.KEY (is_node (format_of g.K.KeyClass)) state
    (state c.args.self.now.volume.shelf.disk) c.args.session c.args.entry c.args.leaf c.args.marked (λ page. (did.since page).same.stamp) 0 (inl refl) (omega arith) c.in-Err-Pages.fault
    (no_room (is_node (format_of g.K.KeyClass)) (state c.args.self.now.volume.shelf.disk) (state c.seek_pair.new.self.volume.shelf.disk) c.args.self.now.volume c.seek_pair.new.self.volume
    c.in-Err-Pages.fault why)
    (why_begun (is_node (format_of g.K.KeyClass)) (state c.args.self.now.volume.shelf.disk) (state c.seek_pair.new.self.volume.shelf.disk) c.args.self.now.volume c.seek_pair.new.self.volume
    c.in-Err-Pages.fault why) c.refuse.new.self c.refuse.result
    (subst (λ (x : Parts g.row.K-Key.Denot g.row.D.Denot). IsRefused c.in-Err-Pages.fault x c.refuse.new.self c.refuse.result) c.seek_pair.ensures.only refused)

pub returns-in-Err-Pages-clause-moves : goal.returns-in-Err-Pages-clause-moves
returns-in-Err-Pages-clause-moves g c =
    let old : Parts g.row.K-Key.Denot g.row.D.Denot = c.args.self.now in
    let state = g.D.SectorDisk.state in
    let kept = subst (λ (x : Parts g.row.K-Key.Denot g.row.D.Denot). IsKept (keys g.K.Key.Ord.cmp g.K.Key.Shape.overlap g.K.Key.Shape.inside) x.sessions) c.self.view_is c.stands.ensures in
    let did = c.seek_pair.ensures.unlogged in
    let refused : IsRefused c.in-Err-Pages.fault c.seek_pair.new.self c.refuse.new.self c.refuse.result = search rules in
    let why = why_pages _ c.in-Err-Pages.field-0 c.in-Err-Pages.fault c.in-Err-Pages.field-0-is c.in-Err-Pages.ensures.refused.why in
    λ l. refused_moves _ (c.a_class_is_lawful.ensures l) _ _ _ (state old.volume.shelf.disk) old kept c.requires.works c.args.session c.requires.session c.args.entry c.args.leaf
    c.args.marked c.requires.seeks state
    c.seek_pair.new.self.volume did.most did.log (did.since 0).goes_on.device (did.keeps l)
    0 c.in-Err-Pages.fault (why_begun (is_node (format_of g.K.KeyClass)) (state old.volume.shelf.disk) (state c.seek_pair.new.self.volume.shelf.disk) old.volume c.seek_pair.new.self.volume
    c.in-Err-Pages.fault why) c.refuse.new.self c.refuse.result
    (subst (λ (x : Parts g.row.K-Key.Denot g.row.D.Denot). IsRefused c.in-Err-Pages.fault x c.refuse.new.self c.refuse.result) c.seek_pair.ensures.only refused)

pub returns-in-Err-Damaged-clause-comes : goal.returns-in-Err-Damaged-clause-comes
returns-in-Err-Damaged-clause-comes g c =
    let did = c.seek_pair.ensures.unlogged in
    let k = keys g.K.Key.Ord.cmp g.K.Key.Shape.overlap g.K.Key.Shape.inside in
    damaged_comes c.args.self.now c.seek_pair.new.self.volume did.log did.most did.imaged (format_of g.K.KeyClass) g.K.KeyClass.is_key k g.K.KeyClass.KEY (is_node (format_of g.K.KeyClass)) g.D.SectorDisk.state _
    c.args.session c.args.entry c.args.leaf c.args.marked c.break_off.new.self c.break_off.result c.break_off.ensures.outcome
    (c.break_off.ensures.failed ∙ ap (λ (x : Parts g.row.K-Key.Denot g.row.D.Denot). record x { sessions = failed_state x.sessions }) c.seek_pair.ensures.only)

pub returns-in-Err-Damaged-clause-moves : goal.returns-in-Err-Damaged-clause-moves
returns-in-Err-Damaged-clause-moves g c =
    let old : Parts g.row.K-Key.Denot g.row.D.Denot = c.args.self.now in
    let state = g.D.SectorDisk.state in
    let kept = subst (λ (x : Parts g.row.K-Key.Denot g.row.D.Denot). IsKept (keys g.K.Key.Ord.cmp g.K.Key.Shape.overlap g.K.Key.Shape.inside) x.sessions) c.self.view_is c.stands.ensures in
    let damaged : c.in-Err-Damaged.field-0 ≡ Damaged = search rules in
    let did = c.seek_pair.ensures.unlogged in
    let w = c.seek_pair.new.self.volume in
    λ l. never_moves _ (c.a_class_is_lawful.ensures l) _ _ _ (state old.volume.shelf.disk) old kept c.requires.works c.args.session c.requires.session c.args.entry c.args.leaf c.args.marked
    c.requires.seeks state
    w did.most did.log (did.since 0).goes_on.device (did.keeps l) (c.a_volume_shows_the_logs_tree.ensures l w) (c.in-Err-Damaged.ensures.refused.damaged damaged)
    _ c.break_off.new.self c.break_off.result _

pub returns-in-Ok-clause-device : goal.returns-in-Ok-clause-device
returns-in-Ok-clause-device g c =
    then_read g.D.SectorDisk.state c.args.self.now c.seek_pair.new.self c.write_sought.new.self c.seek_pair.ensures.device c.write_sought.ensures.device

pub returns-in-Ok-clause-told : goal.returns-in-Ok-clause-told
returns-in-Ok-clause-told g c = then_told g.D.SectorDisk.state c.args.self.now c.seek_pair.new.self c.write_sought.new.self c.write_sought.result c.in-Ok.ensures.told c.write_sought.ensures.told

pub returns-in-Err-Pages-clause-told : goal.returns-in-Err-Pages-clause-told
returns-in-Err-Pages-clause-told g c =
    let says : outcome_fails c.refuse.result ≡ store_fails c.in-Err-Pages.fault = search rules in
    let same : c.refuse.new.self.volume ≡ c.seek_pair.new.self.volume = search rules in
    pages_told g.D.SectorDisk.state c.args.self.now c.seek_pair.new.self c.refuse.new.self c.in-Err-Pages.field-0 c.in-Err-Pages.fault c.refuse.result c.in-Err-Pages.field-0-is c.in-Err-Pages.ensures.told
    same says

pub returns-in-Err-Damaged-clause-told : goal.returns-in-Err-Damaged-clause-told
returns-in-Err-Damaged-clause-told g c =
    let damaged : c.in-Err-Damaged.field-0 ≡ Damaged = search rules in
    quiet_told g.D.SectorDisk.state c.args.self.now c.seek_pair.new.self c.break_off.new.self (step_fails store_fails c.in-Err-Damaged.field-0) c.break_off.result _ (ap (λ (x : StepFault StoreFault). step_fails store_fails x) damaged)
    c.in-Err-Damaged.ensures.told (ap (λ (x : Parts g.row.K-Key.Denot g.row.D.Denot). x.volume) c.break_off.ensures.failed) c.break_off.ensures.outcome refl
