-- The pages of a store that is only read: what tests of them say of the pages of a device.
use Rattle.std.proofs.Common.{◌≡◌, inl, inr, ℕ, Bool, List, [], ◌∷◌, length, Option, Some, None, IsSome, Result, Ok, Err, refl, sym, ap, subst, ◌∙◌, arith}
use Rattle.std.specs.Prelude.{slice_get, OnOk}
use Rattle.std.specs.declared.cmp.Ordering.{Ordering}
use Rattle.std.proofs.lemmas.Bool.{leb-true}
use Rattle.std.proofs.lemmas.Option.{slice_get_within}
use Rattle.gx_disk.specs.Device.{Device}
use Rattle.gx_geom.specs.declared.refusal.Refusal.{Refusal}
use Rattle.gx_machine.specs.declared.entry.Entry.{Entry}
use Rattle.gx_page.specs.Contents.{Contents}
use Rattle.gx_pool.specs.Area.{IsPassing, bytes_of}
use Rattle.gx_pool.specs.Bringing.{HasImage}
use Rattle.gx_pool.specs.State.{Kept, kept, stamp_of}
use Rattle.gx_node.specs.Reading.{Format}
use Rattle.gx_recovery.specs.Records.{Touch}
use Rattle.gx_legality.specs.Owner.{IsFound, IsWhyBehind, WasHeld}
use Rattle.gx_legality.specs.Gathered.{Ascends}
use Rattle.gx_legality.specs.Placing.{BreaksOrLeavesOut, IsPlaced, IsOutOfPlace, noted}
use Rattle.gx_legality.specs.Breaks.{Breaks}
use Rattle.gx_legality.specs.declared.fault.Rule.{Rule}
use Rattle.gx_legality.specs.declared.fault.LegalityFault.{LegalityFault}
use Rattle.gx_legality.specs.declared.fault.LegalityFault.TheVariants as fault
use Rattle.gx_legality.specs.declared.notes.NotedPair.{NotedPair}
use Rattle.gx_legality.proofs.Slots.{each_slot, slot_of, some_against}
use Rattle.gx_store.specs.Faults as faults
use Rattle.gx_store.specs.Faults.{CanBeRead}
use Rattle.gx_store.specs.Since.{IsSince}
use Rattle.gx_store.specs.Standing.{standing_node, store_of}
use Rattle.gx_store.specs.State.{IsHeld, IsInOrder, IsSteady, Shelf}
use Rattle.gx_store.specs.declared.fault.StoreFault.{StoreFault}
use Rattle.gx_store.specs.declared.fault.StoreFault.TheVariants as store_fault
use Rattle.gx_store.proofs.Listed.{nodes_long}
use Rattle.gx_node.specs.Legal.{Legal}
use Rattle.gx_node.specs.Lists.{Each, SomeOf}
use Rattle.gx_node.proofs.Sums.{each_map}
use Rattle.gx_node.specs.Trees.{Rules, Tree, Used}
use Rattle.gx_opening.specs.Noting.{AreNoted, AreOfOthers, IsOfOne, note_of}
use Rattle.gx_opening.specs.Sound.{AllInPlace, AreClean, CanAllBeRead, IsDamage, IsReadRight, IsSoundStore, OnlyReadsStore, Tells, shown_tree}

-- ---- one page that was brought

some_kept : (o : Option Kept) → IsSome o → (k : Kept) × (o ≡ Some k)
some_kept None is = absurd (grind (arith, is))
some_kept (Some k) is = (k, refl)

-- a page that is kept clean, of a store that is only read, passes on its device
pub brought_passes : {D : Type 0} (passes : ℕ → Contents → Bool) (d e : Device) (old new : Shelf D) (page : ℕ) → IsSteady d old.frames → AreClean old.frames → IsSince passes d e old new page
    → IsInOrder (passes new.pages) e.sectors new.frames new.used new.pages → IsSome (kept new.frames page) → IsPassing (passes old.pages) page (bytes_of d.seen page)
brought_passes passes d e old new page steady clean since order is =
    let one = some_kept (kept new.frames page) is in
    let k : Kept = one.0 in
    let stamp : k.stamp ≡ None = ap stamp_of (sym one.1) ∙ since.same.stamp ∙ clean page in
    let image : HasImage (bytes_of e.seen page) k.page = (since.goes_on.steady steady).backed page k one.1 stamp in
    let seen : e.seen ≡ d.seen = (since.goes_on.device.rests steady.honest).seen in
    let passed = order.passed page k one.1 in
    subst (λ (s : List ℕ). IsPassing (passes old.pages) page (bytes_of s page)) seen (record {
      image = image.image;
      number = ap (λ (c : Contents). c.number) image.read ∙ passed.0;
      passing = ap (passes old.pages) image.read ∙ ap (λ n. passes n k.page) (sym since.goes_on.pages) ∙ passed.1;
    })

-- pages that are held, of a store that is in order, were read right
pub read_right : {D E : Type 0} (passes : ℕ → Contents → Bool) (d : Device) (s : Shelf D) (pages : List ℕ) (result : Result (Unit {0}) E)
    → OnOk result (Each (λ page. IsHeld s page) pages) → IsInOrder (passes s.pages) d.sectors s.frames s.used s.pages → OnOk result (Each (λ page. IsReadRight passes d s page) pages)
read_right passes d s pages (Ok done) held order = each_map (λ page. IsHeld s page) (λ page. IsReadRight passes d s page) (λ page is. record { held = is; order = order }) pages held
read_right passes d s pages (Err why) held order = tt

-- what can all be read can be read by a store
pub can_be_read : {D : Type 0} (passes : ℕ → Contents → Bool) (d : Device) (s : Shelf D) → CanAllBeRead (passes s.pages) s.used d.seen → CanBeRead passes d s
can_be_read passes d s all = λ page low taken none. all page low (leb-true page s.used taken)

-- ---- why a test was refused

module _ {D : Type 0} (breaks : ℕ → Rule → Type 0) (passes : ℕ → Contents → Bool) (d e : Device) (old new : Shelf D) where
  -- what is damage isn't legal, if pages can be read
  pub damage_told : (P : Type 0) (why : LegalityFault StoreFault) → IsDamage why → IsWhyBehind old new (faults.IsWhy passes d e old new) why → IsFound breaks why
      → ((page : ℕ) (rule : Rule) → breaks page rule → P → ⊥) → IsSteady d old.frames → CanBeRead passes d old → P → ⊥
  damage_told P fault.Memory is told found never steady can so = is
  damage_told P (fault.Pages store_fault.NoRoom) is told found never steady can so = is
  damage_told P (fault.Pages (store_fault.TooFewFrames n)) is told found never steady can so = is
  damage_told P (fault.Pages store_fault.Device) is told found never steady can so = is
  damage_told P (fault.Pages store_fault.Damaged) is told found never steady can so = told steady can
  damage_told P (fault.Broken page rule) is told found never steady can so = never page rule found so
  damage_told P fault.Unsteady is told found never steady can so = found

-- ---- notes and touches

module _ {E : Type 0} (cmp : E → E → Ordering) where
  some_in : (P : NotedPair E → Type 0) (notes : List (NotedPair E)) (m : NotedPair E) → SomeOf (λ x. x ≡ m) notes → Each P notes → P m
  some_in P [] m some each = absurd some
  some_in P (n ∷ notes) m (inl here) each = subst P here each.0
  some_in P (n ∷ notes) m (inr some) each = some_in P notes m some each.1

  each_of_one : (P : NotedPair E → Type 0) (touched : List (Touch E)) (n : ℕ) (notes : List (NotedPair E)) → Each (IsOfOne cmp touched n) notes → ((k : ℕ) (t : Touch E) → slice_get touched k ≡ Some t → P (note_of t))
      → Each P notes
  each_of_one P touched n [] only all = tt
  each_of_one P touched n (x ∷ notes) only all = (subst P (sym only.0.same) (all only.0.at only.0.touch only.0.there), each_of_one P touched n notes only.1 all)

  -- what holds of all notes holds of all touches
  pub touches_have : (P : NotedPair E → Type 0) (touched : List (Touch E)) (notes : List (NotedPair E)) → AreNoted cmp touched (length touched) notes → Each P notes → Each (λ t. P (note_of t)) touched
  touches_have P touched notes so each =
      each_slot (λ t. P (note_of t)) touched (λ k t there. some_in P notes (note_of t) (so.all k t (slice_get_within touched k t there) there) each)

  -- and the other way round
  pub notes_have : (P : NotedPair E → Type 0) (touched : List (Touch E)) (notes : List (NotedPair E)) → AreNoted cmp touched (length touched) notes → Each (λ t. P (note_of t)) touched → Each P notes
  notes_have P touched notes so each = each_of_one P touched (length touched) notes so.only (λ k t there. slot_of (λ t. P (note_of t)) touched k t each there)

module _ {B : Type 0} (r : Rules B) (t : Tree B) (cmp : Entry B → Entry B → Ordering) (touched : List (Touch (Entry B))) (notes : List (NotedPair (Entry B))) (so : AreNoted cmp touched (length touched) notes) where
  pub all_in_place : Each (IsPlaced r t) notes → AllInPlace r t touched
  all_in_place each = touches_have cmp (IsPlaced r t) touched notes so each

  pub one_out_of_place : (page : ℕ) (rule : Rule) → IsOutOfPlace r t notes page rule → AllInPlace r t touched → ⊥
  one_out_of_place page rule out placed =
      some_against (λ n. (n.leaf ≡ page) × (¬ IsPlaced r t n)) (IsPlaced r t) notes (λ n no is. no.1 is) out.1 (notes_have cmp (IsPlaced r t) touched notes so placed)

-- ---- a store that was only read

module _ {B D : Type 0} (f : Format B) (passes : ℕ → Contents → Bool) (state : D → Device) where
  abbrev Reads : Shelf D → Shelf D → Type 0
  Reads old new = OnlyReadsStore f passes state old new

  -- it has gone on for each page
  pub since_all : (old new : Shelf D) → Reads old new → ((page : ℕ) → IsSince passes (state old.disk) (state old.disk) old old page) → (page : ℕ)
      → IsSince passes (state old.disk) (state new.disk) old new page
  since_all old new reads begins page = reads.goes_on old page (begins page)

  -- as many pages are taken
  pub used_same : (old new : Shelf D) → Reads old new → new.used ≡ old.used
  used_same old new reads =
      sym (nodes_long (standing_node f new.frames (state new.disk).seen) new.used) ∙ reads.stays.used ∙ nodes_long (standing_node f old.frames (state old.disk).seen) old.used

  -- if each page in use was held, and read right, all can be read
  pub all_read : (old : Shelf D) → IsSteady (state old.disk) old.frames → AreClean old.frames → ((page : ℕ) → IsSince passes (state old.disk) (state old.disk) old old page)
      → ((page : ℕ) → Used (shown_tree f passes state old) page
      → WasHeld {P = Shelf D} {B = B} (λ s. IsSteady (state s.disk) s.frames) (λ s. store_of f (state s.disk).seen s) (λ was now q. IsSince passes (state was.disk) (state now.disk) was now q)
      (λ s q. IsReadRight passes (state s.disk) s q) old page)
      → CanAllBeRead (passes old.pages) old.used (state old.disk).seen
  all_read old steady clean begins held = λ page low high.
      let long = nodes_long (standing_node f old.frames (state old.disk).seen) old.used in
      let one = held page (low, omega (arith, high, long)) in
      brought_passes passes (state old.disk) (state one.moment.disk) old one.moment page steady clean (since_all old one.moment one.reads begins page) one.is.order one.is.held.kept

  -- what a test of the whole refuses isn't sound
  pub never_sound : (r : Rules B) (touched : List (Touch (Entry B))) (cmp : Entry B → Entry B → Ordering) (notes : List (NotedPair (Entry B))) (s : Shelf D) → AreNoted cmp touched (length touched) notes
      → ((page : ℕ) (rule : Rule) → Breaks r (shown_tree f passes state s) page rule → ¬ Legal r (shown_tree f passes state s))
      → (page : ℕ) (rule : Rule) → BreaksOrLeavesOut r (shown_tree f passes state s) notes page rule → IsSoundStore f passes state r touched s → ⊥
  never_sound r touched cmp notes s so illegal page rule (inl broken) sound = illegal page rule broken sound.shown.legal
  never_sound r touched cmp notes s so illegal page rule (inr out) sound = one_out_of_place r (shown_tree f passes state s) cmp touched notes so page rule out.1 sound.shown.placed

-- what is said of one thing is said of another that holds exactly if it does
pub tells_so : {T : Type 0} (P Q : Type 0) (result : Result T Refusal) → (P → Q) → (Q → P) → Tells {T = T} P result → Tells {T = T} Q result
tells_so P Q (Ok done) there back told = there told
tells_so P Q (Err why) there back told = λ is q. told is (back q)

-- notes in order are of touches of which no two are of one entry
pub noted_others : {E : Type 0} (cmp : E → E → Ordering) (touched : List (Touch E)) (notes slice : List (NotedPair E)) → slice ≡ notes
    → AreNoted cmp touched (length touched) notes → Ascends cmp (noted slice) → AreOfOthers cmp touched
noted_others {E = E} cmp touched notes slice same so up i j x y before first second tied =
    so.others (subst (λ (ns : List (NotedPair E)). Ascends cmp (noted ns)) same up) i j x y before (slice_get_within touched j y second) first second tied
