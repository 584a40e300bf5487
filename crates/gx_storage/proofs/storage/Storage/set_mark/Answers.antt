use Rattle.std.specs.Cmp.{Equal-is}
use Rattle.std.proofs.Common.{◌≡◌, ℕ, sym, ap, refl, subst, ◌∙◌, Ok, Err, rules}
use Rattle.gx_node.specs.Reading.{format_of, is_node}
use Rattle.gx_node.specs.declared.fault.StepFault.{StepFault}
use Rattle.gx_node.specs.declared.fault.StepFault.TheVariants.{Damaged, Pages}
use Rattle.gx_store.specs.Since.{IsSince}
use Rattle.gx_store.specs.Standing.{store_of}
use Rattle.gx_store.specs.State.{Shelf}
use Rattle.gx_store.specs.declared.fault.StoreFault.{StoreFault}
use Rattle.gx_store.specs.declared.fault.StoreFault.TheVariants.{NoRoom}
use Rattle.gx_tree.specs.Calls.{TellsMark}
use Rattle.gx_tree.specs.Seeking.{is_here}
use Rattle.gx_tree.specs.Wants.{wants}
use Rattle.gx_tree.specs.declared.seek.Sought.TheVariants.{Here, Right}
use Rattle.gx_storage.specs.Changes.{begun, has_room}
use Rattle.gx_storage.specs.Imaged.{is_imaged}
use Rattle.gx_storage.specs.Setting.{tree_at}
use Rattle.gx_storage.specs.Small.{mark_room}
use Rattle.gx_storage.specs.State.{Volume, volume}
use Rattle.gx_storage.proofs.Recording.{nodes_of}
use Rattle.gx_storage.proofs.changes.set_mark.Marking.{found_here, marked_since, unmarked, unmarked_here, unmarked_right, unmarked_stays}
use Rattle.gx_storage.proofs.SmallMarks.{logged_marked}
use Rattle.gx_storage.proofs.Writing.{begun_is, takes_then, on_err, over_begun, stepped, steady_begun, unlogged, unstepped}
use Rattle.gx_storage.proofs.storage.Storage.set_mark.Goals as goal

pub returns-in_err-sought-clause-unlogged : goal.returns-in_err-sought-clause-unlogged
returns-in_err-sought-clause-unlogged g c =
    let i = c.self.inside in
    let f = format_of g.K.KeyClass in
    let state = g.D.SectorDisk.state in
    let v : Volume g.row.D.Denot = volume i.journal i.store i.most in
    let t : Shelf g.row.D.Denot = c.read_leaf.new.store in
    let since = subst {A = ℕ} (λ n. ((q : ℕ) → IsSince (is_node f) (state v.shelf.disk) (state t.disk) (begun v n) t q)) c.mark_size-size.ensures c.in_err-sought.ensures.since in
    rw (← c.self.view_is) (on_err _ _ (unlogged _ _ f (is_node f) state v (mark_room (is_imaged i.journal.imaged c.args.page) g.K.KeyClass.KEY) t since (λ steady. c.in_err-sought.ensures.same steady)))

pub returns-in-Here-clause-unlogged : goal.returns-in-Here-clause-unlogged
returns-in-Here-clause-unlogged g c =
    let i = c.self.inside in
    let f = format_of g.K.KeyClass in
    let state = g.D.SectorDisk.state in
    let v : Volume g.row.D.Denot = volume i.journal i.store i.most in
    let t : Shelf g.row.D.Denot = c.read_leaf.new.store in
    let since = subst {A = ℕ} (λ n. ((q : ℕ) → IsSince (is_node f) (state v.shelf.disk) (state t.disk) (begun v n) t q)) c.mark_size-size.ensures c.in_ok-sought.ensures.since in
    rw (← c.self.view_is) (unlogged _ _ f (is_node f) state v (mark_room (is_imaged i.journal.imaged c.args.page) g.K.KeyClass.KEY) t since (λ steady. c.in_ok-sought.ensures.same steady))

pub returns-in-Right-clause-logged : goal.returns-in-Right-clause-logged
returns-in-Right-clause-logged g c =
    let i = c.self.inside in
    let f = format_of g.K.KeyClass in
    let state = g.D.SectorDisk.state in
    let v : Volume g.row.D.Denot = volume i.journal i.store i.most in
    let t : Shelf g.row.D.Denot = c.read_leaf.new.store in
    let since = subst {A = ℕ} (λ n. ((q : ℕ) → IsSince (is_node f) (state v.shelf.disk) (state t.disk) (begun v n) t q)) c.mark_size-size.ensures c.in_ok-sought.ensures.since in
    rw (← c.self.view_is) (unlogged _ _ f (is_node f) state v (mark_room (is_imaged i.journal.imaged c.args.page) g.K.KeyClass.KEY) t since (λ steady. c.in_ok-sought.ensures.same steady))

pub returns-in_err-slot-clause-unlogged : goal.returns-in_err-slot-clause-unlogged
returns-in_err-slot-clause-unlogged g c =
    let i = c.self.inside in
    let f = format_of g.K.KeyClass in
    let state = g.D.SectorDisk.state in
    let v : Volume g.row.D.Denot = volume i.journal i.store i.most in
    let u = c.begin_event.new.store in
    let t = c.set_mark_step.new.pages in
    let size = mark_room (is_imaged i.journal.imaged c.args.page) g.K.KeyClass.KEY in
    let is = begun_is v u size _ c.begin_event.ensures c.mark_size-size.ensures in
    let since = unstepped (is_node f) state v size t u is c.in_err-slot.ensures.writes.kept in
    rw (← c.self.view_is) (on_err _ _ (unlogged _ _ f (is_node f) state v size t since
    (λ steady. c.in_err-slot.ensures.tells.refused (steady_begun (is_node f) state v size t u is steady) ∙ ap (λ (x : Shelf g.row.D.Denot). store_of f (state x.disk).seen x) is)))

pub mark-requires : goal.mark-requires
mark-requires g c =
    let i = c.self.inside in
    let f = format_of g.K.KeyClass in
    let state = g.D.SectorDisk.state in
    let v : Volume g.row.D.Denot = volume i.journal i.store i.most in
    let u = c.begin_event.new.store in
    let t = c.set_mark_step.new.pages in
    let size = mark_room (is_imaged i.journal.imaged c.args.page) g.K.KeyClass.KEY in
    let is = begun_is v u size _ c.begin_event.ensures c.mark_size-size.ensures in
    let did = stepped (is_node f) state v size t u c.args.page is c.in_ok-slot.ensures.writes.since in
    let still = rw (← c.self.view_is) at c.requires.still in
    record { takes = takes_then (is_node f) state v size t (sym did.goes_on.has_room) (c.in_ok-slot.ensures.changing (ap is_here c.in-Here-2.is)) still; held = c.in_ok-slot.ensures.held }

pub returns-in-Here-2-clause-logged : goal.returns-in-Here-2-clause-logged
returns-in-Here-2-clause-logged g c =
    let i = c.self.inside in
    let f = format_of g.K.KeyClass in
    let state = g.D.SectorDisk.state in
    let v : Volume g.row.D.Denot = volume i.journal i.store i.most in
    let u = c.begin_event.new.store in
    let t = c.set_mark_step.new.pages in
    let size = mark_room (is_imaged i.journal.imaged c.args.page) g.K.KeyClass.KEY in
    let is = begun_is v u size _ c.begin_event.ensures c.mark_size-size.ensures in
    let did = stepped (is_node f) state v size t u c.args.page is c.in_ok-slot.ensures.writes.since in
    let k = g.K.KeyClass in
    rw (← c.self.view_is) (logged_marked (record { partial_cmp = g.K.Key.PartialOrd.partial_cmp; eq = g.K.Key.PartialEq.eq; cmp = g.K.Key.Ord.cmp; overlap = g.K.Key.Shape.overlap; inside = g.K.Key.Shape.inside }) g.K.ReadKeys.is_proper
    g.K.ReadKeys.said f (is_node f) state v size t k.is_key k.spelling i.most
    (record { hold = c.leaves.ensures.hold; long = g.met.K.KeyClass.spelling_length; back = g.met.K.KeyClass.reading_back; exact = λ a b e. g.met.K.Key.Shape.same a b ((Equal-is (g.K.Key.Ord.cmp a b)).0 e); means = c.small_marks.ensures })
    (nodes_of f _ _ c.in_order.ensures) (nodes_of f _ _ c.in_order-in-Here-2.ensures) c.args.page c.mark.new.self did c.mark.ensures.given c.args.transaction c.args.entry.now
    c.known.ensures (wants g.K.Probing.passes c.entry-wanted.result.keys c.entry-wanted.result.row) c.entry-wanted.ensures.pairs c.in-Here-2.slot c.in-Here-2.before c.args.marked
    (λ steady. marked_since f state v size u _ _ c.args.page c.args.marked _ _ is c.in-Here-2.is (c.in_ok-slot.ensures.tells.marked (steady_begun (is_node f) state v size t u is steady)))
    _ refl c.mark.ensures.last)

pub returns-in-Here-2-clause-tells : goal.returns-in-Here-2-clause-tells
returns-in-Here-2-clause-tells g c =
    let i = c.self.inside in
    let f = format_of g.K.KeyClass in
    let state = g.D.SectorDisk.state in
    let w = wants g.K.Probing.passes c.entry-wanted.result.keys c.entry-wanted.result.row in
    rw (← c.self.view_is) (record {
      wants = w;
      wanted = c.entry-wanted.ensures.pairs;
      tells = over_begun f state (TellsMark w c.args.page c.args.marked (Ok (Here c.in-Here-2.slot c.in-Here-2.before))) i.store c.begin_event.new.store c.set_mark_step.new.pages
          i.journal.log.used (has_room i.journal.log c.mark_size-size.result) c.begin_event.ensures (rw c.in-Here-2.is at c.in_ok-slot.ensures.tells);
    })

pub returns-clause-logged : goal.returns-clause-logged
returns-clause-logged g c =
    let i = c.self.inside in
    let f = format_of g.K.KeyClass in
    let state = g.D.SectorDisk.state in
    let v : Volume g.row.D.Denot = volume i.journal i.store i.most in
    let u = c.begin_event.new.store in
    let t = c.set_mark_step.new.pages in
    let size = mark_room (is_imaged i.journal.imaged c.args.page) g.K.KeyClass.KEY in
    let is = begun_is v u size _ c.begin_event.ensures c.mark_size-size.ensures in
    let since = unstepped (is_node f) state v size t u is (c.in_ok-slot.ensures.writes.spared (ap is_here c.in-Right-2.is)) in
    rw (← c.self.view_is) (unlogged _ _ f (is_node f) state v size t since
    (λ steady. unmarked_stays _ _ _ c.args.page c.args.marked _ c.in-Right-2.next c.in-Right-2.is (c.in_ok-slot.ensures.tells.marked (steady_begun (is_node f) state v size t u is steady)) ∙ ap (λ (x : Shelf g.row.D.Denot). store_of f (state x.disk).seen x) is))

pub returns-in-Here-clause-room : goal.returns-in-Here-clause-room
returns-in-Here-clause-room g c =
    let w = wants g.K.Probing.passes c.entry-wanted.result.keys c.entry-wanted.result.row in
    let t : Shelf g.row.D.Denot = c.read_leaf.new.store in
    let node = (tree_at g.K.KeyClass g.D.SectorDisk.state t).node c.args.page in
    λ none. record { wants = w; wanted = c.entry-wanted.ensures.pairs; has = found_here w node c.in_ok-sought.sought c.in-Here.field-0 c.in-Here.field-1 c.in-Here.is c.in_ok-sought.ensures.sought }

pub returns-in-Right-clause-tells : goal.returns-in-Right-clause-tells
returns-in-Right-clause-tells g c =
    let i = c.self.inside in
    let f = format_of g.K.KeyClass in
    let state = g.D.SectorDisk.state in
    let w = wants g.K.Probing.passes c.entry-wanted.result.keys c.entry-wanted.result.row in
    let t : Shelf g.row.D.Denot = c.read_leaf.new.store in
    rw (← c.self.view_is) (record {
      wants = w;
      wanted = c.entry-wanted.ensures.pairs;
      tells = unmarked_here w c.args.page c.args.marked c.in-Right.next _ _ _
          (λ steady. unmarked_right _ (store_of f (state i.store.disk).seen i.store) (store_of f (state t.disk).seen t) c.args.page c.args.marked c.in_ok-sought.sought c.in-Right.next c.in-Right.is
          (c.in_ok-sought.ensures.same steady) c.in_ok-sought.ensures.sought);
    })

pub returns-clause-tells : goal.returns-clause-tells
returns-clause-tells g c =
    let i = c.self.inside in
    let f = format_of g.K.KeyClass in
    let state = g.D.SectorDisk.state in
    let w = wants g.K.Probing.passes c.entry-wanted.result.keys c.entry-wanted.result.row in
    rw (← c.self.view_is) (record {
      wants = w;
      wanted = c.entry-wanted.ensures.pairs;
      tells = over_begun f state (TellsMark w c.args.page c.args.marked (Ok (Right c.in-Right-2.next))) i.store c.begin_event.new.store c.set_mark_step.new.pages
          i.journal.log.used (has_room i.journal.log c.mark_size-size.result) c.begin_event.ensures (rw c.in-Right-2.is at c.in_ok-slot.ensures.tells);
    })

pub returns-in_err-sought-clause-tells : goal.returns-in_err-sought-clause-tells
returns-in_err-sought-clause-tells g c =
    let i = c.self.inside in
    let f = format_of g.K.KeyClass in
    let state = g.D.SectorDisk.state in
    let w = wants g.K.Probing.passes c.entry-wanted.result.keys c.entry-wanted.result.row in
    let failed : c.from_residual.result ≡ Err c.in_err-sought.field-0.0 = search rules in
    rw (← c.self.view_is, failed) (record {
      wants = w;
      wanted = c.entry-wanted.ensures.pairs;
      tells = unmarked w c.args.page c.args.marked c.in_err-sought.field-0.0 _ _ _ c.in_err-sought.ensures.same (λ is. c.in_err-sought.ensures.damaged (ap Err is));
    })

pub returns-in-Here-clause-tells : goal.returns-in-Here-clause-tells
returns-in-Here-clause-tells g c =
    let i = c.self.inside in
    let f = format_of g.K.KeyClass in
    let state = g.D.SectorDisk.state in
    let w = wants g.K.Probing.passes c.entry-wanted.result.keys c.entry-wanted.result.row in
    rw (← c.self.view_is) (record {
      wants = w;
      wanted = c.entry-wanted.ensures.pairs;
      tells = unmarked w c.args.page c.args.marked (Pages NoRoom) _ _ _ c.in_ok-sought.ensures.same
          (λ is. absurd (let never : ◌≡◌ {A = StepFault StoreFault} (Pages NoRoom) Damaged = is in cc));
    })

pub returns-in_err-slot-clause-tells : goal.returns-in_err-slot-clause-tells
returns-in_err-slot-clause-tells g c =
    let i = c.self.inside in
    let f = format_of g.K.KeyClass in
    let state = g.D.SectorDisk.state in
    let w = wants g.K.Probing.passes c.entry-wanted.result.keys c.entry-wanted.result.row in
    let failed : c.from_residual-in_err-slot.result ≡ Err c.in_err-slot.field-0.0 = search rules in
    rw (← c.self.view_is, failed) (record {
      wants = w;
      wanted = c.entry-wanted.ensures.pairs;
      tells = over_begun f state (TellsMark w c.args.page c.args.marked (Err c.in_err-slot.field-0.0)) i.store c.begin_event.new.store c.set_mark_step.new.pages
          i.journal.log.used (has_room i.journal.log c.mark_size-size.result) c.begin_event.ensures c.in_err-slot.ensures.tells;
    })
