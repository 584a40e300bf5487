use Rattle.std.proofs.Common.{◌≡◌, true, false, sym, ap, refl, subst, ◌∙◌, ℕ, Bool, Result, Ok, Err, length, rules}
use Rattle.gx_node.specs.Reading.{format_of, is_node}
use Rattle.gx_node.specs.declared.fault.StepFault.{StepFault}
use Rattle.gx_node.specs.declared.fault.StepFault.TheVariants.{Damaged, Pages}
use Rattle.gx_store.specs.declared.fault.StoreFault.{StoreFault}
use Rattle.gx_store.specs.Standing.{store_of}
use Rattle.gx_store.specs.Since.{IsSince}
use Rattle.gx_store.specs.State.{IsHeld, IsSteady, Shelf}
use Rattle.gx_node.specs.Trees.{Used}
use Rattle.gx_node.specs.Store.{Store, tree_of}
use Rattle.gx_tree.specs.Sweeping.{FitsLeaf, slots_of, takes_none}
use Rattle.gx_storage.specs.Bringing.{has_removable}
use Rattle.gx_storage.specs.Changes.{begun}
use Rattle.gx_storage.specs.Imaged.{is_imaged}
use Rattle.gx_storage.specs.Numbers.{HasOwnNumber}
use Rattle.gx_storage.specs.Small.{sweep_room}
use Rattle.gx_storage.specs.State.{Volume, volume}
use Rattle.gx_storage.proofs.Recording.{nodes_of}
use Rattle.gx_storage.proofs.SmallSweeps.{later_why, logged_swept, on_fault, plan_refused, planned_goes, sweep_logged, sweep_refused}
use Rattle.gx_storage.proofs.Sweeping.{swept_since, swept_stamped, swept_step, takes_some, unswept_since}
use Rattle.gx_storage.proofs.Writing.{takes_then, unlogged}
use Rattle.gx_storage.proofs.storage.Storage.sweep.Goals as goal

pub returns-in_err-plan-clause-unlogged : goal.returns-in_err-plan-clause-unlogged
returns-in_err-plan-clause-unlogged g c =
    let i = c.self.inside in
    let f = format_of g.K.KeyClass in
    let state = g.D.SectorDisk.state in
    let v : Volume g.row.D.Denot = volume i.journal i.store i.most in
    let read : Shelf g.row.D.Denot = c.plan.new.store in
    let bit = is_imaged i.journal.imaged c.args.page in
    let since = c.in_err-plan.ensures.since in
    let why = c.in_err-plan.ensures.why in
    let failed : c.from_residual.result ≡ Err c.in_err-plan.field-0.0 = search rules in
    rw (← c.self.view_is) (on_fault c.from_residual.result c.in_err-plan.field-0.0 _ failed
    (plan_refused _ _ f (is_node f) state v (volume i.journal read i.most) _ c.args.page c.in_err-plan.field-0.0
    (λ same. c.in_err-plan.ensures.room (ap Err same)) (unlogged _ _ f (is_node f) state v (sweep_room bit 0) read since (λ steady. c.in_err-plan.ensures.same steady)) why))

pub returns-then-is_empty-clause-logged : goal.returns-then-is_empty-clause-logged
returns-then-is_empty-clause-logged g c =
    let i = c.self.inside in
    let f = format_of g.K.KeyClass in
    let state = g.D.SectorDisk.state in
    let v : Volume g.row.D.Denot = volume i.journal i.store i.most in
    let read : Shelf g.row.D.Denot = c.plan.new.store in
    let bit = is_imaged i.journal.imaged c.args.page in
    let size = sweep_room bit (length (slots_of c.in_ok-plan.plan)) in
    let since = c.in_ok-plan.ensures.since in
    rw (← c.self.view_is) (sweep_logged _ _ f (is_node f) state v _ _ c.args.page c.in_ok-plan.plan _ c.in_ok-plan.ensures.same c.in_ok-plan.ensures.plans false
    (unlogged _ _ f (is_node f) state v size read since (λ steady. c.in_ok-plan.ensures.same steady)))

pub returns-then-is_empty-clause-tells : goal.returns-then-is_empty-clause-tells
returns-then-is_empty-clause-tells g c =
    let i = c.self.inside in
    let f = format_of g.K.KeyClass in
    let state = g.D.SectorDisk.state in
    let v : Volume g.row.D.Denot = volume i.journal i.store i.most in
    let read : Shelf g.row.D.Denot = c.plan.new.store in
    let none : takes_none c.in_ok-plan.plan ≡ true = sym c.is_empty.ensures ∙ c.if-is_empty.true in
    rw (← c.self.view_is) (record {
      swept = λ steady test agrees. unswept_since f state v _ (c.in_ok-plan.ensures.same steady)
          c.in_ok-plan.plan c.args.page c.in_ok-plan.ensures.page test (c.in_ok-plan.ensures.plans test agrees) none;
      refused = λ steady. tt;
      damaged = λ steady is. absurd (let never : ◌≡◌ {A = Result Bool (StepFault StoreFault)} (Ok false) (Err Damaged) = is in cc);
    })

pub make_sweep-requires-clause-held : goal.make_sweep-requires-clause-held
make_sweep-requires-clause-held g c =
    let i = c.self.inside in
    let f = format_of g.K.KeyClass in
    let state = g.D.SectorDisk.state in
    let v : Volume g.row.D.Denot = volume i.journal i.store i.most in
    let read : Shelf g.row.D.Denot = c.plan.new.store in
    subst {A = ℕ} (λ a. IsHeld read a × Used (tree_of (store_of f (state read.disk).seen read)) a) (sym c.in_ok-plan.ensures.page) c.in_ok-plan.ensures.held

pub make_sweep-requires-clause-fits : goal.make_sweep-requires-clause-fits
make_sweep-requires-clause-fits g c =
    let i = c.self.inside in
    let f = format_of g.K.KeyClass in
    let state = g.D.SectorDisk.state in
    let v : Volume g.row.D.Denot = volume i.journal i.store i.most in
    let read : Shelf g.row.D.Denot = c.plan.new.store in
    subst {A = ℕ} (λ a. FitsLeaf c.in_ok-plan.plan ((tree_of (store_of f (state read.disk).seen read)).node a)) (sym c.in_ok-plan.ensures.page) c.in_ok-plan.ensures.fits

pub returns-in_err-make_sweep-clause-unlogged : goal.returns-in_err-make_sweep-clause-unlogged
returns-in_err-make_sweep-clause-unlogged g c =
    let i = c.self.inside in
    let f = format_of g.K.KeyClass in
    let state = g.D.SectorDisk.state in
    let v : Volume g.row.D.Denot = volume i.journal i.store i.most in
    let read : Shelf g.row.D.Denot = c.plan.new.store in
    let bit = is_imaged i.journal.imaged c.args.page in
    let size = sweep_room bit (length (slots_of c.in_ok-plan.plan)) in
    let since = c.in_ok-plan.ensures.since in
    let t : Shelf g.row.D.Denot = c.make_sweep.new.pages in
    let lacks : StoreFault = c.in_err-make_sweep.field-0.0 in
    let fault : StepFault StoreFault = Pages lacks in
    let since_then : (q : ℕ) → IsSince (is_node f) (state v.shelf.disk) (state t.disk) (begun v size) t q = λ q. c.in_err-make_sweep.ensures.kept (begun v size) q (since q) in
    let why = later_why (is_node f) state v size read t fault (since 0).goes_on c.in_err-make_sweep.ensures.why in
    let failed : c.from_residual-in_err-make_sweep.result ≡ Err (Pages lacks) = search rules in
    rw (← c.self.view_is) (on_fault c.from_residual-in_err-make_sweep.result fault _ failed
    (sweep_refused _ _ f (is_node f) state v (volume i.journal t i.most) _ c.args.page c.in_ok-plan.plan _ c.in_ok-plan.ensures.same
    c.in_ok-plan.ensures.plans fault c.in_ok-plan.ensures.few (unlogged _ _ f (is_node f) state v size t since_then (λ steady. c.in_err-make_sweep.ensures.refused ∙ c.in_ok-plan.ensures.same steady)) why))

pub sweep-requires-clause-may : goal.sweep-requires-clause-may
sweep-requires-clause-may g c =
    let i = c.self.inside in
    let f = format_of g.K.KeyClass in
    let state = g.D.SectorDisk.state in
    let v : Volume g.row.D.Denot = volume i.journal i.store i.most in
    let read : Shelf g.row.D.Denot = c.plan.new.store in
    let bit = is_imaged i.journal.imaged c.args.page in
    let size = sweep_room bit (length (slots_of c.in_ok-plan.plan)) in
    let since = c.in_ok-plan.ensures.since in
    let t : Shelf g.row.D.Denot = c.make_sweep.new.pages in
    let plan = c.in_ok-plan.plan in
    let here = c.in_ok-plan.ensures.page in
    let some : takes_none c.in_ok-plan.plan ≡ false = sym c.is_empty.ensures ∙ c.if-is_empty.false in
    let step = swept_step (is_node f) state v size read t plan.page c.args.page here since c.in_ok-make_sweep.ensures.since in
    let still = rw (← c.self.view_is) at c.requires.still in
    record { takes = rw here (takes_then (is_node f) state v size t (sym step.goes_on.has_room) (c.in_ok-make_sweep.ensures.changing some) still); held = c.in_ok-make_sweep.ensures.held }

pub returns-clause-logged : goal.returns-clause-logged
returns-clause-logged g c =
    let i = c.self.inside in
    let f = format_of g.K.KeyClass in
    let state = g.D.SectorDisk.state in
    let v : Volume g.row.D.Denot = volume i.journal i.store i.most in
    let read : Shelf g.row.D.Denot = c.plan.new.store in
    let bit = is_imaged i.journal.imaged c.args.page in
    let size = sweep_room bit (length (slots_of c.in_ok-plan.plan)) in
    let since = c.in_ok-plan.ensures.since in
    let t : Shelf g.row.D.Denot = c.make_sweep.new.pages in
    let plan = c.in_ok-plan.plan in
    let here = c.in_ok-plan.ensures.page in
    let some : takes_none c.in_ok-plan.plan ≡ false = sym c.is_empty.ensures ∙ c.if-is_empty.false in
    let step = swept_step (is_node f) state v size read t plan.page c.args.page here since c.in_ok-make_sweep.ensures.since in
    let same = c.in_ok-plan.ensures.same in
    let w : Volume g.row.D.Denot = volume c.sweep.new.self t i.most in
    let made = λ (steady : IsSteady (state i.store.disk) i.store.frames). planned_goes plan _ (store_of f (state i.store.disk).seen i.store) (store_of f (state t.disk).seen t) c.args.page here
    (same steady) c.in_ok-plan.ensures.fits c.in_ok-make_sweep.ensures.takes some in
    rw (← c.self.view_is) (sweep_logged _ _ f (is_node f) state v w _ c.args.page plan _ same c.in_ok-plan.ensures.plans true
    (logged_swept _ _ f (is_node f) state v size t _ g.K.KeyClass.spelling c.leaves.ensures.hold (nodes_of f _ _ c.in_order.ensures) (nodes_of f _ _ c.in_order-2.ensures)
    c.args.page c.sweep.new.self step (rw here at c.sweep.ensures.given) plan.sides made _ refl (rw here at c.sweep.ensures.last)))

pub returns-clause-tells : goal.returns-clause-tells
returns-clause-tells g c =
    let i = c.self.inside in
    let f = format_of g.K.KeyClass in
    let state = g.D.SectorDisk.state in
    let v : Volume g.row.D.Denot = volume i.journal i.store i.most in
    let read : Shelf g.row.D.Denot = c.plan.new.store in
    let plan = c.in_ok-plan.plan in
    let here = c.in_ok-plan.ensures.page in
    let some : takes_none c.in_ok-plan.plan ≡ false = sym c.is_empty.ensures ∙ c.if-is_empty.false in
    rw (← c.self.view_is) (record {
      swept = λ steady test agrees. swept_since f state v _ (c.in_ok-plan.ensures.same steady)
          plan c.args.page here test (c.in_ok-plan.ensures.plans test agrees) _ c.in_ok-make_sweep.ensures.takes some;
      refused = λ steady. tt;
      damaged = λ steady is. absurd (let never : ◌≡◌ {A = Result Bool (StepFault StoreFault)} (Ok true) (Err Damaged) = is in cc);
    })

pub returns-clause-stamped : goal.returns-clause-stamped
returns-clause-stamped g c =
    let i = c.self.inside in
    let f = format_of g.K.KeyClass in
    let state = g.D.SectorDisk.state in
    let v : Volume g.row.D.Denot = volume i.journal i.store i.most in
    let read : Shelf g.row.D.Denot = c.plan.new.store in
    let bit = is_imaged i.journal.imaged c.args.page in
    let size = sweep_room bit (length (slots_of c.in_ok-plan.plan)) in
    let since = c.in_ok-plan.ensures.since in
    let t : Shelf g.row.D.Denot = c.make_sweep.new.pages in
    let plan = c.in_ok-plan.plan in
    let here = c.in_ok-plan.ensures.page in
    let some : takes_none c.in_ok-plan.plan ≡ false = sym c.is_empty.ensures ∙ c.if-is_empty.false in
    let step = swept_step (is_node f) state v size read t plan.page c.args.page here since c.in_ok-make_sweep.ensures.since in
    rw (← c.self.view_is) (λ steady swept. swept_stamped plan f (is_node f) state v size t _ c.args.page here step c.in_ok-make_sweep.ensures.held steady
    (c.in_ok-plan.ensures.same steady) c.in_ok-plan.ensures.fits some c.in_ok-make_sweep.ensures.takes)

pub returns-clause-own : goal.returns-clause-own
returns-clause-own g c =
    λ swept. subst {A = ℕ} (λ a. HasOwnNumber (g.D.SectorDisk.state c.make_sweep.new.pages.disk).seen c.make_sweep.new.pages a) c.in_ok-plan.ensures.page c.sweep.ensures.given.own

pub returns-in_err-make_sweep-clause-room : goal.returns-in_err-make_sweep-clause-room
returns-in_err-make_sweep-clause-room g c =
    let some : takes_none c.in_ok-plan.plan ≡ false = sym c.is_empty.ensures ∙ c.if-is_empty.false in
    λ told test agrees.
    subst {A = Store g.row.K-Key.Denot} (λ x. has_removable test ((tree_of x).node c.args.page) ≡ true) (sym c.in_err-make_sweep.ensures.refused)
    (takes_some c.in_ok-plan.plan test _ (c.in_ok-plan.ensures.plans test agrees) some)
