-- The sweep of a leaf with its record: small if the log's extent has an image of the leaf.
use Rattle.std.proofs.Common.{◌≡◌, ◌≢◌, ◌∙◌, sym, ap, refl, subst, ℕ, ◌^◌, ◌<◌, ◌≤◌, Bool, true, false, List, [], length, map, Result, Err, arith}
use Rattle.std.specs.Prelude.{IfErr}
use Rattle.std.proofs.lemmas.List.{length-map}
use Rattle.gx_machine.specs.declared.entry.Entry.{Entry}
use Rattle.gx_disk.specs.Device.{Device}
use Rattle.gx_page.specs.Contents.{Contents}
use Rattle.gx_page.specs.Edits.{with_items}
use Rattle.gx_page.specs.Format.{IsWellFormed}
use Rattle.gx_page.specs.Reading.{read_of}
use Rattle.gx_pool.specs.Area.{bytes_of}
use Rattle.gx_pool.specs.State.{kept}
use Rattle.gx_record.specs.Rec.{Sweep}
use Rattle.gx_record.specs.Format.{IsInRange}
use Rattle.gx_record.specs.Slots.{AreSlots}
use Rattle.gx_record.specs.declared.sizes.TheConstants.{MOST_SLOTS}
use Rattle.gx_node.specs.Lists.{Each, staying}
use Rattle.gx_node.specs.Steps.{ChangesOnly, node_with}
use Rattle.gx_node.specs.Trees.{Node, Tree}
use Rattle.gx_node.specs.Entries.{pair_bytes}
use Rattle.gx_node.specs.Owner as owner
use Rattle.gx_node.specs.declared.fault.StepFault.{StepFault}
use Rattle.gx_node.specs.declared.fault.StepFault.TheVariants.{Damaged, Pages}
use Rattle.gx_node.specs.Laws.{LeavesHold}
use Rattle.gx_node.specs.Reading.{Format, is_node, leaf_of}
use Rattle.gx_node.specs.SmallLaws.{HasMarked, RemovalsMean}
use Rattle.gx_node.specs.Small.{slots_made}
use Rattle.gx_node.specs.Store.{Store, node_of, tree_of}
use Rattle.gx_node.proofs.Edited.{map-staying}
use Rattle.gx_tree.specs.Sweeping.{FitsLeaf, Planned, PlansSweep, TakesOut, slots_from, slots_of, takes_none}
use Rattle.gx_tree.specs.Writing.{Swept}
use Rattle.gx_recovery.specs.Analysis.{Analysis, read}
use Rattle.gx_recovery.specs.Given.{change_fits, given}
use Rattle.gx_recovery.specs.Logged.{Logged, all_records}
use Rattle.gx_recovery.specs.Records.{Record}
use Rattle.gx_recovery.specs.Known.{Known, Limits}
use Rattle.gx_index_laws.specs.Classes.{Page}
use Rattle.gx_durable.specs.Small.{RemoveSlots}
use Rattle.gx_durable.specs.Spelled.{Reading, record_read}
use Rattle.gx_durable.specs.Stored.{bytes_by}
use Rattle.gx_durable.specs.Classes.{change_of, reading_of}
use Rattle.gx_store.specs.Faults as faults
use Rattle.gx_store.specs.Since.{GoesOn}
use Rattle.gx_store.specs.declared.fault.StoreFault.{StoreFault}
use Rattle.gx_store.specs.declared.fault.StoreFault.TheVariants.{NoRoom}
use Rattle.gx_store.specs.Standing.{standing_node, store_of}
use Rattle.gx_store.specs.State.{IsSteady, Shelf}
use Rattle.gx_store.proofs.Changing.{there}
use Rattle.gx_store.proofs.Going.{why_later}
use Rattle.gx_store.proofs.Listed.{nodes_long}
use Rattle.gx_store.proofs.Shown.{stands_kept}
use Rattle.gx_storage.specs.Changes.{IsLogged, IsLoggedIf, IsUnlogged, begun, begun_at, has_room}
use Rattle.gx_storage.specs.Giving.{IsGiven}
use Rattle.gx_storage.specs.Imaged.{is_imaged}
use Rattle.gx_storage.specs.Journal.{IsLast}
use Rattle.gx_storage.specs.Keeps.{Keeps}
use Rattle.gx_storage.specs.Small.{sweep_room, sweep_said}
use Rattle.gx_storage.specs.State.{Journal, Volume, journal_of, volume}
use Rattle.gx_storage.specs.Sweeping.{SweepIsLogged, SweepIsRefused, begun_sweep, swept_slots}
use Rattle.gx_storage.proofs.Giving.{logged_page}
use Rattle.gx_storage.proofs.Recording.{AreNodes}
use Rattle.gx_storage.proofs.SmallFits.{small_fits}
use Rattle.gx_storage.proofs.SmallLeaf.{bytes_then, leaf_is, leaf_made, leaf_node, node_held, node_level, node_then, passing_then}
use Rattle.gx_storage.proofs.SmallRecords.{IsOfPage, small_stays_with}
use Rattle.gx_storage.proofs.SweptSlots.{planned_slots, sides_back, swept_marked}
use Rattle.gx_storage.proofs.Writing.{Stepped, tree_used}

-- ---- what the record says

-- some slots, no more than a sweep has, are in range
pub sweep_in_range : (page : ℕ) (slots : List ℕ) → 1 ≤ page → page < 2 ^ 32 → 0 < length slots → length slots ≤ MOST_SLOTS → AreSlots 0 slots → IsInRange (Sweep page slots)
sweep_in_range page slots low fits some few are = ((low, fits), some, few, are)

sweep_is_of_page : {B : Type 0} (k : Known (Entry B) (Page B)) (said : List ℕ → B) (f : Format B) (page : ℕ) (slots : List ℕ)
    → IsOfPage k said f page (slots_made slots) (record_read (reading_of said f) (Sweep page slots))
unfolding change_of
sweep_is_of_page k said f page slots = record { speaks = λ q. refl; redoes = λ area q. refl; used = λ a. refl; counter = λ a. refl }

-- pairs go from a leaf by sides
pub record GoBySides {B : Type 0} (sides : List Bool) (old new : Tree B) (page : ℕ) : Type 0 where
  pub leaf : (old.node page).level ≡ 0
  pub as_many : length sides ≡ length (old.node page).pairs
  pub changes : ChangesOnly old new page (staying sides (old.node page).pairs) (old.node page).children

-- ---- what the step makes of the leaf's items

module _ {B : Type 0} (IsKey : B → Type 0) (spelling : B → List ℕ) (f : Format B) (hold : LeavesHold IsKey spelling f)
    (used : ℕ) (a b : Contents) (old new : Node B) (sides : List Bool) (well : IsWellFormed a) (well_now : IsWellFormed b) (node : is_node f used a ≡ true) (node_now : is_node f used b ≡ true)
    (number : b.number ≡ a.number) (is_old : old ≡ node_of f a) (is_new : new ≡ node_of f b) (leaf : old.level ≡ 0) (as_many : length sides ≡ length old.pairs)
    (made : new ≡ node_with old old.nsn old.right (staying sides old.pairs) old.children) where
  level_then : a.level ≡ 0
  level_then = sym (node_level f a) ∙ sym (ap (λ (n : Node B). n.level) is_old) ∙ leaf

  level_now : b.level ≡ 0
  level_now = sym (node_level f b) ∙ sym (ap (λ (n : Node B). n.level) is_new) ∙ ap (λ (n : Node B). n.level) made ∙ leaf

  old_leaf : old ≡ leaf_of f a
  old_leaf = is_old ∙ leaf_node f a level_then

  pairs_now : leaf_of f b ≡ node_with (leaf_of f a) (leaf_of f a).nsn (leaf_of f a).right (staying sides (leaf_of f a).pairs) (leaf_of f a).children
  pairs_now =
      sym (leaf_node f b level_now) ∙ sym is_new ∙ made
      ∙ ap (λ (n : Node B). node_with n n.nsn n.right (staying sides n.pairs) n.children) old_leaf

  spelled : a.items ≡ map (pair_bytes spelling) (leaf_of f a).pairs
  spelled = (hold a well (leaf_is f used a level_then node)).items

  counted : length a.items ≡ length sides
  counted = ap (λ (l : List (List ℕ)). length l) spelled ∙ length-map (leaf_of f a).pairs (pair_bytes spelling) ∙ sym (ap (λ (n : Node B). length n.pairs) old_leaf) ∙ sym as_many

  spelled_now : map (pair_bytes spelling) (staying sides (leaf_of f a).pairs) ≡ slots_made (slots_from 0 sides) a.items
  spelled_now =
      map-staying (pair_bytes spelling) sides (leaf_of f a).pairs
      ∙ ap (λ (l : List (List ℕ)). staying sides l) (sym spelled)
      ∙ ap (λ (s : List Bool). staying s a.items) (sym (sides_back sides (length a.items) counted))

  pub slots_gone : b ≡ with_items a (slots_made (slots_from 0 sides) a.items)
  slots_gone = leaf_made IsKey spelling f hold a b _ _ well_now (leaf_is f used b level_now node_now) number pairs_now spelled_now

-- ---- with its record

module _ {B D : Type 0} (known : Limits → Known (Entry B) (Page B)) (said : List ℕ → B) (f : Format B) (passes : ℕ → Contents → Bool) (state : D → Device) (v : Volume D) (size : ℕ) (t : Shelf D)
    (IsKey : B → Type 0) (spelling : B → List ℕ) (hold : LeavesHold IsKey spelling f) (was : AreNodes f passes v.shelf) (right : AreNodes f passes t)
    (page : ℕ) (j : Journal) (did : Stepped passes state v size t page) (given_now : IsGiven (state t.disk).seen t page) (sides : List Bool)
    (made : IsSteady (state v.shelf.disk) v.shelf.frames → GoBySides sides (tree_of (store_of f (state v.shelf.disk).seen v.shelf)) (tree_of (store_of f (state t.disk).seen t)) page) where
  abbrev its_slots : List ℕ
  its_slots = slots_from 0 sides

  logged_small : is_imaged v.imaged page ≡ true → t.pages ≡ v.shelf.pages → IsLast known (reading_of said f) (Sweep page its_slots) (journal_of v) j
      → IsLogged known (reading_of said f) f passes size (state v.shelf.disk) (state t.disk) v (volume j t v.most) (Sweep page its_slots)
  logged_small bit pages last = record {
    logs = last.logs;
    keeps = λ l bodies s lawful keeps.
        (let d = state v.shelf.disk in
        let e = state t.disk in
        let step = made keeps.steady in
        let used = tree_used f e.seen d.seen v.shelf t step.changes.used in
        let held = given_now.held in
        let one = there (kept t.frames page) held.kept in
        let stands = stands_kept t.frames e.seen page one.0 held.stays one.1 in
        let formed : IsWellFormed one.0.page = subst {A = Contents} IsWellFormed stands given_now.well in
        let high : page ≤ v.shelf.used = omega (arith, held.to, used) in
        let before = passing_then (known l) said f passes d v bodies s keeps was page held.from high in
        let passed = right.passed page one.0 one.1 in
        let node_now : passes v.shelf.pages one.0.page ≡ true = ap (λ n. passes n one.0.page) (sym pages) ∙ passed.1 in
        let now = slots_gone IsKey spelling f hold v.shelf.pages (read_of (bytes_by (kept v.shelf.frames page) (bytes_of d.seen page))) one.0.page
        ((tree_of (store_of f d.seen v.shelf)).node page) ((tree_of (store_of f e.seen t)).node page) sides before.image.well_formed formed
        (right.nodes v.shelf.pages _ before.passing) (right.nodes v.shelf.pages one.0.page node_now) (passed.0 ∙ sym before.number)
        (node_then (known l) said f passes d v bodies s keeps was page held.from high) (node_held f e.seen t page one.0 held one.1) step.leaf step.as_many step.changes.changed in
        small_stays_with (known l) said f passes d e v v.log.used (has_room v.log size) t bodies s lawful keeps did.goes_on (omega arith) was right
        (Sweep page its_slots) page (slots_made its_slots) (sweep_is_of_page (known l) said f page its_slots)
        held.from high one.0 one.1 formed now j.log v.most j.imaged last.imaged bit (last.up l) last.stamped last.placed last.key did.others used step.changes.counter);
    goes_on = did.goes_on;
    others = λ q other. did.others q other;
    most = refl;
    imaged = last.imaged;
  }

  -- by the leaf's bit
  pub logged_swept : (small : Bool) → is_imaged v.imaged page ≡ small → IsLast known (reading_of said f) (sweep_said small page its_slots (state t.disk).seen t) (journal_of v) j
      → IsLogged known (reading_of said f) f passes size (state v.shelf.disk) (state t.disk) v (volume j t v.most) (sweep_said small page its_slots (state t.disk).seen t)
  logged_swept true bit last = logged_small bit did.goes_on.pages last
  logged_swept false bit last = logged_page known said f passes state v size t page j did given_now right last

-- ---- what the log gives of the leaf

-- a sweep by a test of claims fits what the log gives of a leaf whose bit is set
module _ {B D : Type 0} (k : Known (Entry B) (Page B)) (said : List ℕ → B) (f : Format B) (passes : ℕ → Contents → Bool) (d : Device) (v : Volume D)
    (bodies : List (List (Record (Entry B) (Page B)))) (s : Logged (Entry B) (Page B)) (keeps : Keeps k (reading_of said f) f passes d v bodies s) (was : AreNodes f passes v.shelf)
    (page : ℕ) (low : 1 ≤ page) (high : page ≤ v.shelf.used) (bit : is_imaged v.imaged page ≡ true) where
  pub sweep_fits : RemovalsMean f → (claimed : Entry B → Bool) → ((tree_of (store_of f d.seen v.shelf)).node page).level ≡ 0
      → change_fits k (change_of f (RemoveSlots (swept_slots claimed ((tree_of (store_of f d.seen v.shelf)).node page)))) (given page (all_records s)) ≡ true
  unfolding change_of
  sweep_fits mean claimed leaf =
      let c = read_of (bytes_then k said f passes d v bodies s keeps was page low high) in
      let node = (tree_of (store_of f d.seen v.shelf)).node page in
      let is = node_then k said f passes d v bodies s keeps was page low high in
      let before = passing_then k said f passes d v bodies s keeps was page low high in
      let level : c.level ≡ 0 = sym (node_level f c) ∙ sym (ap (λ (n : Node B). n.level) is) ∙ leaf in
      let marked = subst {A = Node B} (λ n. Each (HasMarked n.pairs) (swept_slots claimed node)) (is ∙ leaf_node f c level) (swept_marked claimed node) in
      small_fits k said f passes d v bodies s keeps was page low high bit (change_of f (RemoveSlots (swept_slots claimed node)))
      ((mean (swept_slots claimed node) c).back (leaf_is f v.shelf.pages c level (was.nodes v.shelf.pages c before.passing)) marked)

-- so if it was swept
pub swept_fits : {B D : Type 0} (k : Known (Entry B) (Page B)) (said : List ℕ → B) (f : Format B) (passes : ℕ → Contents → Bool) (d : Device) (v : Volume D)
    (bodies : List (List (Record (Entry B) (Page B)))) (s : Logged (Entry B) (Page B)) → Keeps k (reading_of said f) f passes d v bodies s → AreNodes f passes v.shelf → RemovalsMean f
    → (page : ℕ) (claimed : Entry B → Bool) (slots : List ℕ) (new : Store B) → slots ≡ swept_slots claimed ((tree_of (store_of f d.seen v.shelf)).node page)
    → Swept claimed (store_of f d.seen v.shelf) new page true → is_imaged v.imaged page ≡ true → change_fits k (change_of f (RemoveSlots slots)) (given page (all_records s)) ≡ true
swept_fits k said f passes d v bodies s keeps was mean page claimed slots new taken swept bit =
    let there = (swept.some refl).0.changes.there in
    let long = nodes_long (standing_node f v.shelf.frames d.seen) v.shelf.used in
    subst {A = List ℕ} (λ l. change_fits k (change_of f (RemoveSlots l)) (given page (all_records s)) ≡ true) (sym taken)
    (sweep_fits k said f passes d v bodies s keeps was page there.0 (omega (arith, there.1, long)) bit mean claimed swept.leaf)

-- the record touches no entry
pub sweep_quiet : {B D : Type 0} (k : Known (Entry B) (Page B)) (said : List ℕ → B) (f : Format B) (small : Bool) (page : ℕ) (slots seen : List ℕ) (s : Shelf D) (a : Analysis (Entry B))
    → (read k a (record_read (reading_of said f) (sweep_said small page slots seen s))).touched ≡ a.touched
sweep_quiet k said f true page slots seen s a = refl
sweep_quiet k said f false page slots seen s a = refl

-- ---- of a plan

-- what a plan takes goes by its sides
pub planned_goes : {B : Type 0} (plan : Planned) (read old new : Store B) (page : ℕ) → plan.page ≡ page → read ≡ old → FitsLeaf plan ((tree_of read).node page) → TakesOut plan read new
    → takes_none plan ≡ false → GoBySides plan.sides (tree_of old) (tree_of new) page
planned_goes {B} plan read old new page here same fits takes some =
    subst {A = Store B} (λ s. GoBySides plan.sides (tree_of s) (tree_of new) page) same (record {
      leaf = fits.leaf;
      as_many = fits.as_many;
      changes = subst {A = ℕ} (λ a. ChangesOnly (tree_of read) (tree_of new) a (staying plan.sides ((tree_of read).node a).pairs) ((tree_of read).node a).children) here (takes.some some);
    })

module _ {B D : Type 0} (known : Limits → Known (Entry B) (Page B)) (r : Reading (Entry B) (Page B)) (f : Format B) (passes : ℕ → Contents → Bool) (state : D → Device) (v w : Volume D)
    (IsTest : (Entry B → Bool) → Type 0) (page : ℕ) (plan : Planned) (read : Store B) (same : IsSteady (state v.shelf.disk) v.shelf.frames → read ≡ store_of f (state v.shelf.disk).seen v.shelf)
    (plans : (test : Entry B → Bool) → IsTest test → PlansSweep test ((tree_of read).node page) plan) where
  -- a planned sweep that was logged, if it takes something, or refused
  pub sweep_logged : (any : Bool)
      → IsLoggedIf known r f passes (sweep_room (is_imaged v.imaged page) (length (slots_of plan))) (state v.shelf.disk) (state w.shelf.disk) v w
      (sweep_said (is_imaged v.imaged page) page (slots_of plan) (state w.shelf.disk).seen w.shelf) any
      → SweepIsLogged known r f passes IsTest (state v.shelf.disk) (state w.shelf.disk) v w page any
  sweep_logged any logged = record {
    slots = slots_of plan;
    exact = λ steady test is. planned_slots plan test read _ page (same steady) (plans test is);
    logged = logged;
  }

  pub sweep_refused : (fault : StepFault StoreFault) → length (slots_of plan) ≤ MOST_SLOTS
      → IsUnlogged known r f passes (begun v (sweep_room (is_imaged v.imaged page) (length (slots_of plan)))) (state v.shelf.disk) (state w.shelf.disk) v w
      → owner.IsWhy (λ x. faults.IsWhy passes (state v.shelf.disk) (state w.shelf.disk) (begun v (sweep_room (is_imaged v.imaged page) (length (slots_of plan)))) w.shelf x) fault
      → SweepIsRefused known r f passes IsTest (state v.shelf.disk) (state w.shelf.disk) v w page fault
  sweep_refused fault few unlogged why = record {
    slots = slots_of plan;
    exact = λ no_room steady test is. planned_slots plan test read _ page (same steady) (plans test is);
    few = few;
    unlogged = unlogged;
    why = why;
  }

-- a sweep whose plan was refused, but not for lack of room
pub plan_refused : {B D : Type 0} (known : Limits → Known (Entry B) (Page B)) (r : Reading (Entry B) (Page B)) (f : Format B) (passes : ℕ → Contents → Bool) (state : D → Device) (v w : Volume D)
    (IsTest : (Entry B → Bool) → Type 0) (page : ℕ) (fault : StepFault StoreFault) → fault ≢ Pages NoRoom
    → IsUnlogged known r f passes (begun v (sweep_room (is_imaged v.imaged page) 0)) (state v.shelf.disk) (state w.shelf.disk) v w
    → owner.IsWhy (λ x. faults.IsWhy passes (state v.shelf.disk) (state w.shelf.disk) (begun v (sweep_room (is_imaged v.imaged page) 0)) w.shelf x) fault
    → SweepIsRefused known r f passes IsTest (state v.shelf.disk) (state w.shelf.disk) v w page fault
plan_refused known r f passes state v w IsTest page fault room unlogged why = record {
  slots = [];
  exact = λ no_room. absurd (room no_room);
  few = omega arith;
  unlogged = unlogged;
  why = why;
}

-- an answer that is a fault
pub on_fault : {A : Type 0} (result : Result A (StepFault StoreFault)) (fault : StepFault StoreFault) (P : StepFault StoreFault → Type 0) → result ≡ Err fault → P fault → IfErr result P
on_fault {A} result fault P is holds = subst {A = Result A (StepFault StoreFault)} (λ x. IfErr x P) (sym is) holds

-- why a step was refused since pages were read is why it was since the event began
pub later_why : {D : Type 0} (passes : ℕ → Contents → Bool) (state : D → Device) (v : Volume D) (size : ℕ) (read t : Shelf D) (fault : StepFault StoreFault)
    → GoesOn passes (state v.shelf.disk) (state read.disk) (begun v size) read
    → owner.IsWhy (λ x. faults.IsWhy passes (state read.disk) (state t.disk) read t x) fault
    → owner.IsWhy (λ x. faults.IsWhy passes (state v.shelf.disk) (state t.disk) (begun v size) t x) fault
later_why passes state v size read t Damaged on why = tt
later_why passes state v size read t (Pages fault) on why = why_later passes (state v.shelf.disk) (state read.disk) (state t.disk) (begun v size) read t fault on why

-- an event began with the room for just these slots
pub begun_slots : {D : Type 0} (j : Journal) (page : ℕ) (s u : Shelf D) (size count : ℕ) (slots : List ℕ) → u ≡ begun_at j.log size s → size ≡ sweep_room (is_imaged j.imaged page) count → count ≡ length slots
    → u ≡ begun_sweep j page slots s
begun_slots j page s u size count slots is sized counted = is ∙ ap (λ n. begun_at j.log n s) (sized ∙ ap (sweep_room (is_imaged j.imaged page)) counted)
