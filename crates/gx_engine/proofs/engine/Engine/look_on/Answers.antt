use Rattle.std.proofs.Common.{◌≡◌, ◌∙◌, ◌≤◌, ◌<◌, ℕ, [], ap, refl, sym, subst, ◌-◌, length, arith, rules}
use Rattle.std.proofs.lemmas.Result.{err_from_is_err_and}
use Rattle.gx_machine.specs.declared.query.Query.TheVariants.{Equal}
use Rattle.gx_machine.specs.Keys.{keys}
use Rattle.gx_node.specs.Reading.{format_of, is_node}
use Rattle.gx_store.specs.State.{IsInOrder}
use Rattle.gx_tree.specs.declared.look.Look.{Look}
use Rattle.gx_tree.specs.Wants.{wants}
use Rattle.gx_phases.specs.States.{IsKept, phase_at}
use Rattle.gx_disk.specs.declared.layout.TheConstants.{MAX_PAGES}
use Rattle.gx_storage.specs.Setting.{StaysAs}
use Rattle.gx_storage.specs.State.{Volume}
use Rattle.gx_engine.specs.declared.work.Work.TheVariants.{Looks}
use Rattle.gx_engine.specs.Looks.{IsFirstUnless, turned_by, work_before}
use Rattle.gx_engine.specs.Moves.{calling}
use Rattle.gx_engine.specs.States.{Parts}
use Rattle.gx_engine.specs.Writes.{AsksRoom, LacksPages, MakesRoom, WriteComes}
use Rattle.gx_engine.proofs.AtWork.{ended_turned, put_phase, read_before, reads_of, same_look, worked_so}
use Rattle.gx_engine.proofs.Further.{hand_on, turned_there}
use Rattle.gx_node.specs.Owner.{CountsFaults}
use Rattle.gx_events.specs.declared.outcome.Outcome.{Outcome}
use Rattle.gx_engine.specs.Calls.{outcome_fails}
use Rattle.gx_engine.proofs.Calling.{then_read}
use Rattle.gx_engine.proofs.LookMoves.{same_events}
use Rattle.gx_engine.proofs.Reading.{err_any, err_so, of_err, ok_so, on_ok}
use Rattle.gx_engine.proofs.RoomMade.{look_made, stays_used}
use Rattle.gx_engine.proofs.writes.looks.Moves.{at_look, descends_comes, may_find_none, more_write, stop_reads, stop_write, turned_moves}
use Rattle.gx_engine.proofs.engine.Engine.look_on.Goals as goal

pub read_look-read-requires-clause-looks : goal.read_look-read-requires-clause-looks
read_look-read-requires-clause-looks g c =
    (c.requires.looks.0, c.requires.looks.1, c.requires.looks.2, c.requires.looks.3, c.requires.looks.4)

pub returns-clause-goes_on : goal.returns-clause-goes_on
returns-clause-goes_on g c =
    let e : Parts g.row.K-Key.Denot g.row.D.Denot = c.args.self.now in
    let k = keys g.K.Key.Ord.cmp g.K.Key.Shape.overlap g.K.Key.Shape.inside in
    let kept = subst (λ (x : Parts g.row.K-Key.Denot g.row.D.Denot). IsKept k x.sessions) c.self.view_is c.stands.ensures in
    ok_so _ c.turn_look.result (λ x is call look writes at.
    let m : Parts g.row.K-Key.Denot g.row.D.Denot = c.read_look-read.new.self in
    let new : Parts g.row.K-Key.Denot g.row.D.Denot = c.turn_look.new.self in
    let it = c.in_ok-done.ensures.reads call look at in
    let there = put_phase c.args.session e k kept c.requires.session call (Looks it.after) m it.only in
    let turned = c.turn_look.ensures.turns call it.after there in
    let ends = on_ok _ c.turn_look.result x is turned.ends in
    let none : length it.after.stack.items ≡ 0 = (let done = it.ends in let all = ends.1 in search (arith, rules)) in (
      ended_turned c.args.session call it.after e m new it.only there turned.there ends.0 none,
      λ l.
          let did = c.in_ok-done.ensures.unlogged in
          let order = subst (λ (x : Parts g.row.K-Key.Denot g.row.D.Denot).
          IsInOrder (is_node (format_of g.K.KeyClass) x.volume.shelf.pages) (g.D.SectorDisk.state x.volume.shelf.disk).sectors x.volume.shelf.frames x.volume.shelf.used x.volume.shelf.pages)
          c.self-2.view_is c.in_order.ensures in
          let small : e.volume.shelf.pages ≤ MAX_PAGES = subst (λ (n : ℕ). n ≤ MAX_PAGES) (did.since 0).goes_on.pages order.few in
          let few = subst (λ (x : Parts g.row.K-Key.Denot g.row.D.Denot). x.volume.most ≤ 100) c.self.view_is c.most.ensures.few in
          let one = same_look (phase_at (c.args.session - 1) e.sessions.phases) c.requires.looks.0 call c.requires.looks.1 look c.requires.looks.2 at in
          let more = subst (λ (x : Look g.row.K-Key.Denot). 0 < length x.stack.items) one c.requires.looks.3 in
          let first = subst (λ (x : Look g.row.K-Key.Denot). IsFirstUnless c.args.begun e x) one c.requires.looks.4 in
          let takes = wants g.K.Probing.passes c.entry-wanted.result.keys c.entry-wanted.result.row in
          let leads = g.K.Probing.passes c.entry-wanted.result.bounds in
          let w : Volume g.row.D.Denot = m.volume in
          let on = hand_on _ (c.a_class_is_lawful.ensures l) _ _ _ (g.D.SectorDisk.state e.volume.shelf.disk) e kept c.args.session c.requires.session call (Looks look) at
          look (may_find_none c.args.entry.now call writes) small few c.args.begun first (g.D.SectorDisk.state w.shelf.disk) _
          (turned_moves _ (c.a_class_is_lawful.ensures l) _ _ _ g.D.SectorDisk.state
          e kept c.args.session c.requires.session c.args.entry.now call writes (Looks look) at look c.requires.works
          w did.most did.log (did.since 0).goes_on.device (did.keeps l) (c.a_volume_shows_the_logs_tree.ensures l w) g.K.KeyClass.is_key (c.a_volume_shows_keys.ensures l w)
          order takes leads (g.K.KeyClass.may_match (Equal c.args.entry.now.key)) c.entry-wanted.ensures.pairs c.entry-wanted.ensures.bounds
          (λ x b isx isb same covers. g.met.K.KeyClass.match_is_consistent (Equal c.args.entry.now.key) x.key b isx isb same covers)
          it.after more it.step it.after.found.items refl) in
          let moved = turned_there _ _ _ _ (g.D.SectorDisk.state e.volume.shelf.disk) g.D.SectorDisk.state c.args.session call (Looks it.after) (turned_by it.after.found.items it.after) _ e m new it.only turned.there on in
          moved,
    ))

pub returns-clause-stays : goal.returns-clause-stays
returns-clause-stays g c =
    let e : Parts g.row.K-Key.Denot g.row.D.Denot = c.args.self.now in
    let k = keys g.K.Key.Ord.cmp g.K.Key.Shape.overlap g.K.Key.Shape.inside in
    let kept = subst (λ (x : Parts g.row.K-Key.Denot g.row.D.Denot). IsKept k x.sessions) c.self.view_is c.stands.ensures in
    ok_so _ c.turn_look.result (λ x is.
    let call = c.requires.looks.0 in
    let m : Parts g.row.K-Key.Denot g.row.D.Denot = c.read_look-read.new.self in
    let it = c.in_ok-done.ensures.reads call c.requires.looks.1 c.requires.looks.2 in
    let there = put_phase c.args.session e k kept c.requires.session call (Looks it.after) m it.only in
    let turned = c.turn_look.ensures.turns call it.after there in
    subst (λ (v : Volume g.row.D.Denot). StaysAs g.K.KeyClass g.D.SectorDisk.state e.volume.shelf v.shelf)
    (sym (ap (λ (x : Parts g.row.K-Key.Denot g.row.D.Denot). x.volume) turned.there)) c.in_ok-done.ensures.stays)

pub returns-clause-reads : goal.returns-clause-reads
returns-clause-reads g c =
    let e : Parts g.row.K-Key.Denot g.row.D.Denot = c.args.self.now in
    let k = keys g.K.Key.Ord.cmp g.K.Key.Shape.overlap g.K.Key.Shape.inside in
    let kept = subst (λ (x : Parts g.row.K-Key.Denot g.row.D.Denot). IsKept k x.sessions) c.self.view_is c.stands.ensures in
    err_any _ c.turn_look.result (λ call look at.
    let m : Parts g.row.K-Key.Denot g.row.D.Denot = c.read_look-read.new.self in
    let new : Parts g.row.K-Key.Denot g.row.D.Denot = c.turn_look.new.self in
    let it = c.in_ok-done.ensures.reads call look at in
    let there = put_phase c.args.session e k kept c.requires.session call (Looks it.after) m it.only in
    let turned = c.turn_look.ensures.turns call it.after there in
    reads_of e new _ (worked_so c.args.session call (Looks it.after) (turned_by it.after.found.items it.after) e m new it.only turned.there) refl)

pub returns-clause-comes : goal.returns-clause-comes
returns-clause-comes g c =
    let e : Parts g.row.K-Key.Denot g.row.D.Denot = c.args.self.now in
    let k = keys g.K.Key.Ord.cmp g.K.Key.Shape.overlap g.K.Key.Shape.inside in
    let kept = subst (λ (x : Parts g.row.K-Key.Denot g.row.D.Denot). IsKept k x.sessions) c.self.view_is c.stands.ensures in
    err_so _ c.turn_look.result (λ outcome is call look writes at.
    let m : Parts g.row.K-Key.Denot g.row.D.Denot = c.read_look-read.new.self in
    let new : Parts g.row.K-Key.Denot g.row.D.Denot = c.turn_look.new.self in
    let it = c.in_ok-done.ensures.reads call look at in
    let there = put_phase c.args.session e k kept c.requires.session call (Looks it.after) m it.only in
    let turned = c.turn_look.ensures.turns call it.after there in
    let more = of_err _ c.turn_look.result outcome is turned.goes in
    let d = g.D.SectorDisk.state e.volume.shelf.disk in
    let f = format_of g.K.KeyClass in
    let old : Parts g.row.K-Key.Denot g.row.D.Denot = calling c.args.session call (work_before c.args.begun look) e in
    let known = worked_so c.args.session call (Looks it.after) (turned_by it.after.found.items it.after) e m new it.only turned.there in
    let used = ap (λ (x : Parts g.row.K-Key.Denot g.row.D.Denot). x.volume.shelf.used) known ∙ stays_used f d.seen (g.D.SectorDisk.state m.volume.shelf.disk).seen e.volume.shelf m.volume.shelf _ c.in_ok-done.ensures.stays in
    subst (λ (x : Outcome g.row.K-Key.Denot). WriteComes k f (is_node f) g.K.KeyClass.KEY d (g.D.SectorDisk.state new.volume.shelf.disk) c.args.session call old new x) (sym more)
    (descends_comes (AsksRoom k f g.K.KeyClass.KEY d c.args.session call old) (LacksPages k f d c.args.session call old) (MakesRoom k f d c.args.session call old)
    k (is_node f) d (g.D.SectorDisk.state new.volume.shelf.disk) c.args.session call (Looks it.after) (turned_by it.after.found.items it.after) old m new
    (read_before c.args.session call (work_before c.args.begun look) (Looks it.after) e m it.only) turned.there
    (look_made k f d c.args.session call old (g.D.SectorDisk.state new.volume.shelf.disk) new (λ steady. used)
    (at_look k e kept c.args.session c.requires.session call (Looks look) at c.args.begun look))).0)

pub returns-clause-moves : goal.returns-clause-moves
returns-clause-moves g c =
    let e : Parts g.row.K-Key.Denot g.row.D.Denot = c.args.self.now in
    let k = keys g.K.Key.Ord.cmp g.K.Key.Shape.overlap g.K.Key.Shape.inside in
    let kept = subst (λ (x : Parts g.row.K-Key.Denot g.row.D.Denot). IsKept k x.sessions) c.self.view_is c.stands.ensures in
    err_so _ c.turn_look.result (λ outcome is call look writes at l.
    let m : Parts g.row.K-Key.Denot g.row.D.Denot = c.read_look-read.new.self in
    let new : Parts g.row.K-Key.Denot g.row.D.Denot = c.turn_look.new.self in
    let it = c.in_ok-done.ensures.reads call look at in
    let there = put_phase c.args.session e k kept c.requires.session call (Looks it.after) m it.only in
    let turned = c.turn_look.ensures.turns call it.after there in
    let did = c.in_ok-done.ensures.unlogged in
    let order = subst (λ (x : Parts g.row.K-Key.Denot g.row.D.Denot).
    IsInOrder (is_node (format_of g.K.KeyClass) x.volume.shelf.pages) (g.D.SectorDisk.state x.volume.shelf.disk).sectors x.volume.shelf.frames x.volume.shelf.used x.volume.shelf.pages)
    c.self-2.view_is c.in_order.ensures in
    let small : e.volume.shelf.pages ≤ MAX_PAGES = subst (λ (n : ℕ). n ≤ MAX_PAGES) (did.since 0).goes_on.pages order.few in
    let few = subst (λ (x : Parts g.row.K-Key.Denot g.row.D.Denot). x.volume.most ≤ 100) c.self.view_is c.most.ensures.few in
    let one = same_look (phase_at (c.args.session - 1) e.sessions.phases) c.requires.looks.0 call c.requires.looks.1 look c.requires.looks.2 at in
    let more = subst (λ (x : Look g.row.K-Key.Denot). 0 < length x.stack.items) one c.requires.looks.3 in
    let first = subst (λ (x : Look g.row.K-Key.Denot). IsFirstUnless c.args.begun e x) one c.requires.looks.4 in
    let takes = wants g.K.Probing.passes c.entry-wanted.result.keys c.entry-wanted.result.row in
    let leads = g.K.Probing.passes c.entry-wanted.result.bounds in
    let w : Volume g.row.D.Denot = m.volume in
    let on = hand_on _ (c.a_class_is_lawful.ensures l) _ _ _ (g.D.SectorDisk.state e.volume.shelf.disk) e kept c.args.session c.requires.session call (Looks look) at
    look (may_find_none c.args.entry.now call writes) small few c.args.begun first (g.D.SectorDisk.state w.shelf.disk) _
    (turned_moves _ (c.a_class_is_lawful.ensures l) _ _ _ g.D.SectorDisk.state
    e kept c.args.session c.requires.session c.args.entry.now call writes (Looks look) at look c.requires.works
    w did.most did.log (did.since 0).goes_on.device (did.keeps l) (c.a_volume_shows_the_logs_tree.ensures l w) g.K.KeyClass.is_key (c.a_volume_shows_keys.ensures l w)
    order takes leads (g.K.KeyClass.may_match (Equal c.args.entry.now.key)) c.entry-wanted.ensures.pairs c.entry-wanted.ensures.bounds
    (λ x b isx isb same covers. g.met.K.KeyClass.match_is_consistent (Equal c.args.entry.now.key) x.key b isx isb same covers)
    it.after more it.step it.after.found.items refl) in
    let moved = turned_there _ _ _ _ (g.D.SectorDisk.state e.volume.shelf.disk) g.D.SectorDisk.state c.args.session call (Looks it.after) (turned_by it.after.found.items it.after) _ e m new it.only turned.there on in
    let more = of_err _ c.turn_look.result outcome is turned.goes in
    more_write _ _ _ _ _ _ c.args.session call _ new outcome more (λ bodies i h. (moved bodies i h).0))

pub returns-clause-device : goal.returns-clause-device
returns-clause-device g c =
    then_read g.D.SectorDisk.state c.args.self.now c.read_look-read.new.self c.turn_look.new.self c.read_look-read.ensures.device c.turn_look.ensures.device

pub returns-clause-told : goal.returns-clause-told
returns-clause-told g c =
    subst (λ (n : ℕ). CountsFaults outcome_fails n (g.D.SectorDisk.state c.turn_look.new.self.volume.shelf.disk).faults c.turn_look.result) c.in_ok-done.ensures.told c.turn_look.ensures.told

pub returns-in_err-done-clause-reads : goal.returns-in_err-done-clause-reads
returns-in_err-done-clause-reads g c =
    let p = err_from_is_err_and c.from_residual.result c.from_residual.ensures.1 in
    rw p.1 (λ call look at.
    let e : Parts g.row.K-Key.Denot g.row.D.Denot = c.args.self.now in
    let known = stop_reads (is_node (format_of g.K.KeyClass)) _ _ c.args.session (calling c.args.session call (work_before c.args.begun look) e) c.read_look-read.new.self c.in_err-done.field-0.0
    (c.in_err-done.ensures.stops call look at) in
    known)

pub returns-in_err-done-clause-comes : goal.returns-in_err-done-clause-comes
returns-in_err-done-clause-comes g c =
    let p = err_from_is_err_and c.from_residual.result c.from_residual.ensures.1 in
    rw (p.1, p.2) (λ call look writes at.
    let k = keys g.K.Key.Ord.cmp g.K.Key.Shape.overlap g.K.Key.Shape.inside in
    let old : Parts g.row.K-Key.Denot g.row.D.Denot = calling c.args.session call (work_before c.args.begun look) c.args.self.now in
    let kept = subst (λ (x : Parts g.row.K-Key.Denot g.row.D.Denot). IsKept k x.sessions) c.self.view_is c.stands.ensures in
    let looks = at_look k c.args.self.now kept c.args.session c.requires.session call (Looks look) at c.args.begun look in
    (stop_write k (format_of g.K.KeyClass) (is_node (format_of g.K.KeyClass)) g.K.KeyClass.KEY _ _ c.args.session call old
    c.read_look-read.new.self looks c.in_err-done.field-0.0 (c.in_err-done.ensures.stops call look at)).0)

pub returns-in_err-done-clause-moves : goal.returns-in_err-done-clause-moves
returns-in_err-done-clause-moves g c =
    let p = err_from_is_err_and c.from_residual.result c.from_residual.ensures.1 in
    rw (p.1, p.2) (λ call look writes at l.
    let k = keys g.K.Key.Ord.cmp g.K.Key.Shape.overlap g.K.Key.Shape.inside in
    let old : Parts g.row.K-Key.Denot g.row.D.Denot = calling c.args.session call (work_before c.args.begun look) c.args.self.now in
    let kept = subst (λ (x : Parts g.row.K-Key.Denot g.row.D.Denot). IsKept k x.sessions) c.self.view_is c.stands.ensures in
    let looks = at_look k c.args.self.now kept c.args.session c.requires.session call (Looks look) at c.args.begun look in
    same_events _ _ _ _ _ _ c.args.session _ c.read_look-read.new.self c.in_err-done.field-0.0 _ _
    (stop_write k (format_of g.K.KeyClass) (is_node (format_of g.K.KeyClass)) g.K.KeyClass.KEY _ _ c.args.session call old
    c.read_look-read.new.self looks c.in_err-done.field-0.0 (c.in_err-done.ensures.stops call look at)).1
    (c.in_err-done.ensures.moves call look at (may_find_none c.args.entry.now call writes) l))
