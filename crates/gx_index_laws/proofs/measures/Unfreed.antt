-- Another session's slot may change as it will, as long as it frees no claim: a session's call has no more to do for it.
use Rattle.std.proofs.Common.{◌≡◌, ◌≢◌, ℕ, zero, suc, ◌-◌, ◌≤◌, Bool, true, false, not, ◌&&◌, inl, inr, List, [], ◌∷◌, None, Some, refl, ap, ◌∙◌, arith}
use Rattle.std.specs.Prelude.{slice_set, if◌then◌else◌}
use Rattle.std.specs.List.{list_any, slice_index_or}
use Rattle.gx_machine.specs.declared.entry.Entry.{Entry}
use Rattle.gx_machine.specs.Sets.{has}
use Rattle.gx_machine.specs.Machine.{is_session}
use Rattle.gx_node.specs.Trees.{Pair, Tree, standing}
use Rattle.gx_node.specs.Writes.{is_sweepable}
use Rattle.gx_events.specs.Slots.{Slot, Free, Working, Undoing, Waiting, locks_held, slot_at, with_slot}
use Rattle.gx_events.proofs.Places.{slot_other}
use Rattle.gx_recovery.proofs.Tests.{either_of, or_second}
use Rattle.gx_index_laws.specs.Classes.{Class, IsLawful, entry_of}
use Rattle.gx_index_laws.specs.States.{State, Work, Rests, Looks, Descends, Seeks, tree_now}
use Rattle.gx_index_laws.specs.Happening.{changed_at, slotted}
use Rattle.gx_index_laws.specs.Measures.{claims_pair, call_left, slot_left, work_left}
use Rattle.gx_index_laws.proofs.Tools.{changed_beside, not_true}
use Rattle.gx_index_laws.proofs.Numbered.{or_first}
use Rattle.gx_index_laws.proofs.Answering.{standing_le}

-- what is listed stays listed if the place that changes still lists it
listed_still : {X : Type 0} (test : X → Bool) (i : ℕ) (x y : X) (xs : List X) → (test (slice_index_or xs i y) ≡ true → test x ≡ true) → list_any test xs ≡ true
    → list_any test (slice_set xs i x) ≡ true
listed_still test i x y [] still h = let no : ⊥ = cc in absurd no
listed_still test zero x y (z ∷ xs) still h =
    elim (either_of (test z) (list_any test xs) h) [
      | inl here ↦ or_first (test x) (list_any test xs) (still here)
      | inr later ↦ or_second (test x) (list_any test xs) later
    ]
listed_still test (suc i) x y (z ∷ xs) still h =
    elim (either_of (test z) (list_any test xs) h) [
      | inl here ↦ or_first (test z) (list_any test (slice_set xs i x)) here
      | inr later ↦ or_second (test z) (list_any test (slice_set xs i x)) (listed_still test i x y xs still later)
    ]

-- what isn't claimed any more wasn't before
unclaimed : (m was now : Bool) → (was ≡ true → now ≡ true) → (m && not now) ≡ true → (m && not was) ≡ true
unclaimed true true now h e = not_true (not now) e (ap not (h refl))
unclaimed true false now h e = refl
unclaimed false was now h e = e

module _ {B : Type 0} (c : Class B) (l : IsLawful c) (old : State B) (s a : ℕ) (ne : a ≢ s) (there : is_session s ≡ true) (slot : Slot B) (work : Work B)
    (still : (e : Entry B) → has c.keys e (locks_held (slot_at s old.slots)).claims ≡ true → has c.keys e (locks_held slot).claims ≡ true) where
  abbrev t : Tree B
  t = tree_now c old

  abbrev then_slots : List (Slot B)
  then_slots = with_slot s slot old.slots

  at_place : slot_at s old.slots ≡ slice_index_or old.slots (s - 1) Free
  at_place = ap (λ (b : Bool). if b then slice_index_or old.slots (s - 1) Free else Free) there

  claimed_still : (x : Pair B) → claims_pair c old.slots x ≡ true → claims_pair c then_slots x ≡ true
  claimed_still x h =
      listed_still (λ (y : Slot B). has c.keys (entry_of x) (locks_held y).claims) (s - 1) slot Free old.slots
      (λ was. still (entry_of x) (ap (λ (y : Slot B). has c.keys (entry_of x) (locks_held y).claims) at_place ∙ was)) h

  fewer : standing (is_sweepable (claims_pair c then_slots)) t ≤ standing (is_sweepable (claims_pair c old.slots)) t
  fewer =
      standing_le c l t (is_sweepable (claims_pair c then_slots)) (is_sweepable (claims_pair c old.slots))
      (λ x is. unclaimed x.marked (claims_pair c old.slots x) (claims_pair c then_slots x) (claimed_still x) is)

  slot_less : (other : Slot B) (at : Work B) (restored : List (Entry B)) → slot_left c t then_slots other at restored ≤ slot_left c t old.slots other at restored
  slot_less Free at restored = omega arith
  slot_less (Working locks notes None) at restored = omega arith
  slot_less (Working locks notes (Some call)) at restored = by at
    where
      by : (at : Work B) → call_left c t then_slots at ≤ call_left c t old.slots at
      by Rests = omega arith
      by (Looks stack found) = omega arith
      by (Descends e parent item) = let less = fewer in omega (arith, less)
      by (Seeks e leaf) = omega arith
  slot_less (Undoing locks notes) at restored = omega arith
  slot_less (Waiting number) at restored = omega arith

  pub unfreed : work_left c (slotted s slot work old) a ≤ work_left c old a
  unfreed =
      let same : work_left c (slotted s slot work old) a ≡ slot_left c t then_slots (slot_at a old.slots) (old.work a) (old.restored a) =
      ap (λ (y : Slot B). slot_left c t then_slots y (changed_at s work old.work a) (changed_at s [] old.restored a)) (slot_other a s old.slots slot there ne)
      ∙ ap (λ (y : Work B). slot_left c t then_slots (slot_at a old.slots) y (changed_at s [] old.restored a)) (changed_beside s work old.work a ne)
      ∙ ap (λ (y : List (Entry B)). slot_left c t then_slots (slot_at a old.slots) (old.work a) y) (changed_beside s [] old.restored a ne) in
      let less = slot_less (slot_at a old.slots) (old.work a) (old.restored a) in
      omega (arith, same, less)
