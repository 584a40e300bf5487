-- What the sweep of a leaf leaves.
use Rattle.std.proofs.Common.{◌≡◌, ◌≢◌, ◌∙◌, sym, ap, refl, subst, inl, inr, ℕ, zero, suc, ◌<◌, ◌≤◌, ◌==◌, Bool, true, false, List, [], ◌∷◌, length, Result, Ok, Err, arith}
use Rattle.std.specs.Prelude.{nat_lt, IfErr}
use Rattle.std.proofs.lemmas.Bool.{eq-eqb, lt-ltb}
use Rattle.gx_machine.specs.declared.entry.Entry.{Entry}
use Rattle.gx_recovery.proofs.Logs.{and_all}
use Rattle.gx_disk.specs.Device.{Device}
use Rattle.gx_page.specs.Contents.{Contents}
use Rattle.gx_node.specs.Lists.{how_many, staying}
use Rattle.gx_node.specs.Trees.{Node}
use Rattle.gx_node.specs.Writes.{is_sweepable}
use Rattle.gx_node.proofs.Sums.{length_parted}
use Rattle.gx_node.specs.Reading.{Format}
use Rattle.gx_node.specs.Store.{Store, node_at, tree_of}
use Rattle.gx_tree.specs.Sweeping.{FitsLeaf, Planned, PlansSweep, TakesOut, slots_from, slots_of, takes_none}
use Rattle.gx_tree.specs.Writing.{Swept}
use Rattle.gx_tree.proofs.Swept.{is_swept, is_unswept, sweep_size}
use Rattle.gx_node.specs.Owner.{IsWhy}
use Rattle.gx_node.specs.declared.fault.StepFault.{StepFault}
use Rattle.gx_node.specs.declared.fault.StepFault.TheVariants.{Damaged, Pages}
use Rattle.gx_node.specs.Edits.{entry_of}
use Rattle.gx_store.specs.Faults as faults
use Rattle.gx_store.specs.declared.fault.StoreFault.{StoreFault}
use Rattle.gx_store.specs.declared.fault.StoreFault.TheVariants as fault
use Rattle.gx_store.specs.Since.{IsSince, IsStamped}
use Rattle.gx_store.specs.Standing.{standing_node, store_of}
use Rattle.gx_store.specs.State.{Shelf, IsHeld, IsSteady}
use Rattle.gx_store.proofs.Listed.{nodes_long}
use Rattle.gx_storage.specs.Bringing.{has_removable}
use Rattle.gx_glog.specs.State.{Log}
use Rattle.gx_storage.specs.Changes.{begun, begun_at, has_room}
use Rattle.gx_storage.specs.State.{Volume}
use Rattle.gx_storage.proofs.OnlyReads.{since_begun}
use Rattle.gx_storage.proofs.Writing.{Stepped, same_node, stepped_since}

-- ---- a leaf that is swept isn't as it was

-- fewer stay than there are, if a side goes
fewer_stay : {X : Type 0} (n : ℕ) (sides : List Bool) (xs : List X) → length sides ≡ length xs → 0 < length (slots_from n sides) → length (staying sides xs) < length xs
unfolding slots_from
fewer_stay n [] xs same some = absurd (omega (arith, some))
fewer_stay n (b ∷ sides) [] same some = absurd (omega (arith, same))
fewer_stay n (true ∷ sides) (x ∷ xs) same some = omega (arith, length_parted sides xs)
fewer_stay n (false ∷ sides) (x ∷ xs) same some = omega (arith, fewer_stay (suc n) sides xs (omega (arith, same)) some)

positive : (n : ℕ) → (n == 0) ≡ false → 0 < n
positive zero none = cc
positive (suc n) some = omega arith

module _ {B : Type 0} (plan : Planned) where
  -- a leaf that something went from doesn't have what it had
  shorter : (old new : Store B) → FitsLeaf plan ((tree_of old).node plan.page) → takes_none plan ≡ false → TakesOut plan old new
      → (tree_of new).node plan.page ≡ (tree_of old).node plan.page → ⊥
  shorter old new fits some takes same =
      let stood = (tree_of old).node plan.page in
      let few = fewer_stay 0 plan.sides stood.pairs fits.as_many (positive (length (slots_of plan)) some) in
      let left : length (staying plan.sides stood.pairs) ≡ length stood.pairs =
      sym (ap (λ (n : Node B). length n.pairs) (takes.some some).changed) ∙ ap (λ (n : Node B). length n.pairs) same in
      absurd (omega (arith, few, left))

  module _ {D : Type 0} (f : Format B) (passes : ℕ → Contents → Bool) (state : D → Device) (v : Volume D) (size : ℕ) (t : Shelf D) where
    -- so it has the batch as its stamp
    left_stamped : Stepped passes state v size t plan.page → IsHeld t plan.page → IsSteady (state v.shelf.disk) v.shelf.frames
        → FitsLeaf plan ((tree_of (store_of f (state v.shelf.disk).seen v.shelf)).node plan.page) → takes_none plan ≡ false
        → TakesOut plan (store_of f (state v.shelf.disk).seen v.shelf) (store_of f (state t.disk).seen t) → IsStamped v.log.used v.shelf.frames t.frames plan.page
    left_stamped did held steady fits some takes = elim (did.goes_on.each plan.page) [
      | inl same ↦
          let there = (takes.some some).there in
          let high : plan.page ≤ v.shelf.used = omega (arith, there.1, nodes_long (standing_node f v.shelf.frames (state v.shelf.disk).seen) v.shelf.used) in
          absurd (shorter _ _ fits some takes (same_node f (state t.disk).seen (state v.shelf.disk).seen v.shelf t plan.page held.from high held.to (same.stands steady)))
      | inr changed ↦ changed
    ]

    -- the store that was read is the one of before
    pub swept_stamped : (read : Store B) (page : ℕ) → plan.page ≡ page → Stepped passes state v size t page → IsHeld t plan.page → IsSteady (state v.shelf.disk) v.shelf.frames
        → read ≡ store_of f (state v.shelf.disk).seen v.shelf → FitsLeaf plan ((tree_of read).node page) → takes_none plan ≡ false
        → TakesOut plan read (store_of f (state t.disk).seen t) → IsStamped v.log.used v.shelf.frames t.frames page
    swept_stamped read page here did held steady same fits some takes =
        let before = store_of f (state v.shelf.disk).seen v.shelf in
        subst {A = ℕ} (λ a. IsStamped v.log.used v.shelf.frames t.frames a) here
        (left_stamped (subst {A = ℕ} (λ a. Stepped passes state v size t a) (sym here) did) held steady
        (subst {A = ℕ} (λ a. FitsLeaf plan ((tree_of before).node a)) (sym here) (subst {A = Store B} (λ s. FitsLeaf plan ((tree_of s).node page)) same fits)) some
        (subst {A = Store B} (λ s. TakesOut plan s (store_of f (state t.disk).seen t)) same takes))

-- ---- since before the event began

-- an event that only read begins anew, with its room
pub begun_anew : {D : Type 0} (passes : ℕ → Contents → Bool) (state : D → Device) (s read : Shelf D) (batch : ℕ) (before room : Bool) (q : ℕ)
    → IsSince passes (state s.disk) (state read.disk) (record s { batch = batch; has_room = before }) read q
    → IsSince passes (state s.disk) (state read.disk) (record s { batch = batch; has_room = room }) (record read { batch = batch; has_room = room }) q
begun_anew passes state s read batch before room q since =
    let on = since.goes_on in
    record {
      goes_on = record {
        device = on.device;
        faults = on.faults;
        used = on.used;
        counter = on.counter;
        pages = on.pages;
        batch = refl;
        has_room = refl;
        gated = on.gated;
        frames = on.frames;
        each = on.each;
        steady = on.steady;
        readable = on.readable;
      };
      same = since.same;
    }

pub held_anew : {D : Type 0} (read : Shelf D) (batch page : ℕ) (room : Bool) → IsHeld read page → IsHeld (record read { batch = batch; has_room = room }) page
held_anew read batch page room held = record { from = held.from; to = held.to; kept = held.kept; stays = held.stays }

-- why pages were refused, in another form
pub whys : {A : Type 0} (old new : StoreFault → Type 0) → ((why : StoreFault) → old why → new why) → (result : Result A (StepFault StoreFault)) → IfErr result (IsWhy old) → IfErr result (IsWhy new)
whys old new goes (Ok done) is = tt
whys old new goes (Err Damaged) is = tt
whys old new goes (Err (Pages why)) is = goes why is

-- of an event that only read, which begins anew
pub why_anew : {D : Type 0} (passes : ℕ → Contents → Bool) (d e : Device) (s read : Shelf D) (batch : ℕ) (room : Bool) (why : StoreFault)
    → faults.IsWhy passes d e (record s { batch = batch; has_room = true }) read why
    → faults.IsWhy passes d e (record s { batch = batch; has_room = room }) (record read { batch = batch; has_room = room }) why
why_anew passes d e s read batch room fault.NoRoom is = absurd (let no : true ≡ false = is in cc)
why_anew passes d e s read batch room (fault.TooFewFrames wanted) is = record { more = is.more; few = is.few; two = is.two }
why_anew passes d e s read batch room fault.Device is = is
why_anew passes d e s read batch room fault.Damaged is = is

-- so if the event had begun, and begins anew
module _ {D : Type 0} (passes : ℕ → Contents → Bool) (state : D → Device) (log : Log) (size : ℕ) (s start read u : Shelf D)
    (started : start ≡ record s { batch = log.used; has_room = true }) (begins : u ≡ begun_at log size read) where
  pub since_anew : (q : ℕ) → ((was : Shelf D) → IsSince passes (state was.disk) (state start.disk) was start q → IsSince passes (state was.disk) (state read.disk) was read q)
      → IsSince passes (state s.disk) (state u.disk) (begun_at log size s) u q
  since_anew q keeps =
      subst {A = Shelf D} (λ x. IsSince passes (state s.disk) (state x.disk) (begun_at log size s) x q) (sym begins)
      (begun_anew passes state s read log.used true (has_room log size) q
      (since_begun passes state (record { log = log; shelf = s; most = 0; imaged = [] }) read start log.used q true started keeps))

  pub whys_anew : {A : Type 0} (result : Result A (StepFault StoreFault)) → IfErr result (IsWhy (λ x. faults.IsWhy passes (state start.disk) (state read.disk) start read x))
      → IfErr result (IsWhy (λ x. faults.IsWhy passes (state s.disk) (state u.disk) (begun_at log size s) u x))
  whys_anew result is =
      whys (λ x. faults.IsWhy passes (state start.disk) (state read.disk) start read x) (λ x. faults.IsWhy passes (state s.disk) (state u.disk) (begun_at log size s) u x)
      (λ why said. subst {A = Shelf D} (λ y. faults.IsWhy passes (state s.disk) (state y.disk) (begun_at log size s) y why) (sym begins)
      (why_anew passes (state s.disk) (state read.disk) s read log.used (has_room log size) why
      (subst {A = Shelf D} (λ x. faults.IsWhy passes (state x.disk) (state read.disk) x read why) started said)))
      result is

-- a plan that takes something is of a leaf that has something to take
pub takes_some : {B : Type 0} (plan : Planned) (test : Entry B → Bool) (node : Node B) → PlansSweep test node plan → takes_none plan ≡ false → has_removable test node ≡ true
takes_some plan test node plans some =
    let count : 0 < how_many (is_sweepable (λ x. test (entry_of x))) node.pairs =
    omega (arith, sweep_size plan test node plans, positive (length (slots_of plan)) some) in
    and_all (node.level == 0) (nat_lt 0 (how_many (is_sweepable (λ x. test (entry_of x))) node.pairs)) (eq-eqb node.level 0 plans.leaf)
    (lt-ltb 0 (how_many (is_sweepable (λ x. test (entry_of x))) node.pairs) count)

-- if a plan was only read, and the event then began, what changes is the page that is planned
pub swept_step : {D : Type 0} (passes : ℕ → Contents → Bool) (state : D → Device) (v : Volume D) (size : ℕ) (read t : Shelf D) (planned page : ℕ) → planned ≡ page
    → ((q : ℕ) → IsSince passes (state v.shelf.disk) (state read.disk) (begun v size) read q)
    → ((was : Shelf D) (q : ℕ) → q ≢ planned → IsSince passes (state was.disk) (state read.disk) was read q → IsSince passes (state was.disk) (state t.disk) was t q)
    → Stepped passes state v size t page
swept_step passes state v size read t planned page here first second =
    stepped_since passes state v size t page (λ q apart. second (begun v size) q (λ same. apart (same ∙ here)) (first q))

module _ {B D : Type 0} (f : Format B) (state : D → Device) (v : Volume D) (read : Store B) (same : read ≡ store_of f (state v.shelf.disk).seen v.shelf) where
  module _ (plan : Planned) (page : ℕ) (here : plan.page ≡ page) (test : Entry B → Bool) (plans : PlansSweep test (node_at read.nodes page) plan) where
    planned_there : PlansSweep test (node_at read.nodes plan.page) plan
    planned_there = subst {A = ℕ} (λ a. PlansSweep test (node_at read.nodes a) plan) (sym here) plans

    pub unswept_since : takes_none plan ≡ true → Swept test (store_of f (state v.shelf.disk).seen v.shelf) read page false
    unswept_since none =
        subst {A = ℕ} (λ a. Swept test (store_of f (state v.shelf.disk).seen v.shelf) read a false) here
        (is_unswept plan test _ read same planned_there none)

    pub swept_since : (new : Store B) → TakesOut plan read new → takes_none plan ≡ false → Swept test (store_of f (state v.shelf.disk).seen v.shelf) new page true
    swept_since new takes some =
        subst {A = ℕ} (λ a. Swept test (store_of f (state v.shelf.disk).seen v.shelf) new a true) here
        (is_swept plan test _ read new same planned_there takes some)
