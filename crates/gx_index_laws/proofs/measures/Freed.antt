-- What a commit or an end frees raises what another session's call has left by so many claims at most.
use Rattle.std.proofs.Common.{◌≡◌, ◌≢◌, ℕ, zero, suc, ◌+◌, ◌-◌, ◌≤◌, Bool, true, false, not, ◌&&◌, ◌⊎◌, inl, inr, List, [], ◌∷◌, length, flat_map, None, Some, refl, ap, ◌∙◌, arith}
use Rattle.std.specs.Prelude.{slice_set, if◌then◌else◌}
use Rattle.std.specs.List.{list_any, slice_index_or}
use Rattle.gx_machine.specs.declared.entry.Entry.{Entry}
use Rattle.gx_machine.specs.Keys.{same_entry}
use Rattle.gx_machine.specs.Sets.{has}
use Rattle.gx_machine.specs.Machine.{is_session}
use Rattle.gx_machine.proofs.SetLaws.{same_is}
use Rattle.gx_node.specs.Lists.{one_if, how_many}
use Rattle.gx_node.specs.Trees.{Pair, Tree, leaves, standing}
use Rattle.gx_node.specs.Legal.{Legal}
use Rattle.gx_node.specs.Writes.{is_sweepable}
use Rattle.gx_node.proofs.Sums.{how_many-flat_map}
use Rattle.gx_events.specs.Slots.{Slot, Free, Working, Undoing, Waiting, locks_held, slot_at, with_slot}
use Rattle.gx_events.proofs.Places.{slot_other}
use Rattle.gx_recovery.specs.Records.{Record, Commit, End}
use Rattle.gx_recovery.specs.Logged.{appended}
use Rattle.gx_recovery.proofs.Tests.{either_of, or_second, true_or_false}
use Rattle.gx_index_laws.specs.Classes.{Class, Page, IsLawful, entry_of, is_of, tree_in}
use Rattle.gx_index_laws.specs.States.{State, Work, Rests, Looks, Descends, Seeks, tree_after, tree_now}
use Rattle.gx_index_laws.specs.Whole.{IsWhole}
use Rattle.gx_index_laws.specs.Happening.{changed_at, with_record, slotted}
use Rattle.gx_index_laws.specs.Measures.{claims_pair, call_left, slot_left, work_left}
use Rattle.gx_index_laws.proofs.Tools.{changed_beside, none_pass}
use Rattle.gx_index_laws.proofs.Numbered.{or_first}
use Rattle.gx_index_laws.proofs.Living.{is_pair}
use Rattle.gx_index_laws.proofs.Standing.{is_legal}
use Rattle.gx_index_laws.proofs.Closing.{quiet_tree}

-- what is listed is listed at the place that changes, or elsewhere still
listed_or : {X : Type 0} (test : X → Bool) (i : ℕ) (x y : X) (xs : List X) → list_any test xs ≡ true
    → (test (slice_index_or xs i y) ≡ true) ⊎ (list_any test (slice_set xs i x) ≡ true)
listed_or test i x y [] h = let no : ⊥ = cc in absurd no
listed_or test zero x y (z ∷ xs) h =
    elim (either_of (test z) (list_any test xs) h) [
      | inl here ↦ inl here
      | inr later ↦ inr (or_second (test x) (list_any test xs) later)
    ]
listed_or test (suc i) x y (z ∷ xs) h =
    elim (either_of (test z) (list_any test xs) h) [
      | inl here ↦ inr (or_first (test z) (list_any test (slice_set xs i x)) here)
      | inr later ↦ elim (listed_or test i x y xs later) [
        | inl at ↦ inl at
        | inr still ↦ inr (or_second (test z) (list_any test (slice_set xs i x)) still)
      ]
    ]

-- what passes one of two tests
either_passes : {X : Type 0} (p q h : X → Bool) → ((x : X) → p x ≡ true → (q x ≡ true) ⊎ (h x ≡ true)) → (xs : List X) → how_many p xs ≤ how_many q xs + how_many h xs
either_passes p q h one [] = omega arith
either_passes p q h one (x ∷ xs) =
    let rest = either_passes p q h one xs in
    elim (true_or_false (p x)) [
      | inl is ↦
          (let here = ap (λ b. one_if b) is in
          elim (one x is) [
            | inl first ↦ (let more = ap (λ b. one_if b) first in omega (arith, rest, here, more))
            | inr second ↦ (let more = ap (λ b. one_if b) second in omega (arith, rest, here, more))
          ])
      | inr other ↦ (let here = ap (λ b. one_if b) other in omega (arith, rest, here))
    ]

sweepable_by : (m was now mine : Bool) → (was ≡ true → (mine ≡ true) ⊎ (now ≡ true)) → (m && not now) ≡ true → ((m && not was) ≡ true) ⊎ (mine ≡ true)
sweepable_by true true true mine h e = let no : ⊥ = cc in absurd no
sweepable_by true true false mine h e = elim (h refl) [ inl is ↦ inr is | inr wrong ↦ (let none : ⊥ = cc in absurd none) ]
sweepable_by true false now mine h e = inl refl
sweepable_by false was now mine h e = let no : ⊥ = cc in absurd no

module _ {B : Type 0} (c : Class B) (l : IsLawful c) where
  -- each entry has one pair
  few_claimed : (t : Tree B) → Legal c.rules t → (claims : List (Entry B))
      → how_many (λ x. has c.keys (entry_of x) claims) (flat_map (λ q. (t.node q).pairs) (leaves t)) ≤ length claims
  few_claimed t legal [] =
      let none = none_pass (λ (x : Pair B). has c.keys (entry_of x) []) (λ x. refl) (flat_map (λ q. (t.node q).pairs) (leaves t)) in
      omega (arith, none)
  few_claimed t legal (e ∷ claims) =
      let all : List (Pair B) = flat_map (λ q. (t.node q).pairs) (leaves t) in
      let parts : how_many (λ x. has c.keys (entry_of x) (e ∷ claims)) all ≤ how_many (is_of c e) all + how_many (λ x. has c.keys (entry_of x) claims) all =
      either_passes (λ x. has c.keys (entry_of x) (e ∷ claims)) (is_of c e) (λ x. has c.keys (entry_of x) claims)
      (λ x h. elim (either_of (same_entry c.keys (entry_of x) e) (has c.keys (entry_of x) claims) h) [
        | inl here ↦ inl (is_pair c l e x (same_is c.keys l.keys (entry_of x) e here))
        | inr later ↦ inr later
      ]) all in
      let one = legal.single e.row e.key in
      let counted = how_many-flat_map (is_of c e) t in
      let rest = few_claimed t legal claims in
      omega (arith, parts, one, counted, rest)

  module _ (old : State B) (w : IsWhole c old) (s a : ℕ) (ne : a ≢ s) (there : is_session s ≡ true) (slot : Slot B) (work : Work B) where
    abbrev t : Tree B
    t = tree_now c old

    abbrev then_slots : List (Slot B)
    then_slots = with_slot s slot old.slots

    abbrev freed : List (Entry B)
    freed = (locks_held (slot_at s old.slots)).claims

    at_place : slot_at s old.slots ≡ slice_index_or old.slots (s - 1) Free
    at_place = ap (λ (b : Bool). if b then slice_index_or old.slots (s - 1) Free else Free) there

    claimed_or : (x : Pair B) → claims_pair c old.slots x ≡ true → (has c.keys (entry_of x) freed ≡ true) ⊎ (claims_pair c then_slots x ≡ true)
    claimed_or x h =
        elim (listed_or (λ (y : Slot B). has c.keys (entry_of x) (locks_held y).claims) (s - 1) slot Free old.slots h) [
          | inl at ↦ inl (ap (λ (y : Slot B). has c.keys (entry_of x) (locks_held y).claims) at_place ∙ at)
          | inr still ↦ inr still
        ]

    few_more : standing (is_sweepable (claims_pair c then_slots)) t ≤ standing (is_sweepable (claims_pair c old.slots)) t + length freed
    few_more =
        let all : List (Pair B) = flat_map (λ q. (t.node q).pairs) (leaves t) in
        let parts : how_many (is_sweepable (claims_pair c then_slots)) all ≤ how_many (is_sweepable (claims_pair c old.slots)) all + how_many (λ x. has c.keys (entry_of x) freed) all =
        either_passes (is_sweepable (claims_pair c then_slots)) (is_sweepable (claims_pair c old.slots)) (λ x. has c.keys (entry_of x) freed)
        (λ x is. sweepable_by x.marked (claims_pair c old.slots x) (claims_pair c then_slots x) (has c.keys (entry_of x) freed) (claimed_or x) is) all in
        let now = how_many-flat_map (is_sweepable (claims_pair c then_slots)) t in
        let was = how_many-flat_map (is_sweepable (claims_pair c old.slots)) t in
        let few = few_claimed t (is_legal c l old w) freed in
        omega (arith, parts, now, was, few)

    slot_more : (other : Slot B) (at : Work B) (restored : List (Entry B)) → slot_left c t then_slots other at restored ≤ slot_left c t old.slots other at restored + length freed
    slot_more Free at restored = omega arith
    slot_more (Working locks notes None) at restored = omega arith
    slot_more (Working locks notes (Some call)) at restored = by at
      where
        by : (at : Work B) → call_left c t then_slots at ≤ call_left c t old.slots at + length freed
        by Rests = omega arith
        by (Looks stack found) = omega arith
        by (Descends e parent item) = let more = few_more in omega (arith, more)
        by (Seeks e leaf) = omega arith
    slot_more (Undoing locks notes) at restored = omega arith
    slot_more (Waiting number) at restored = omega arith

    freed_by : (r : Record (Entry B) (Page B)) → tree_after c (appended r old.log) ≡ t → work_left c (slotted s slot work (with_record r old)) a ≤ work_left c old a + length freed
    freed_by r same_tree =
        let same : work_left c (slotted s slot work (with_record r old)) a ≡ slot_left c t then_slots (slot_at a old.slots) (old.work a) (old.restored a) =
        ap (λ (x : Tree B). slot_left c x then_slots (slot_at a then_slots) (changed_at s work old.work a) (changed_at s [] old.restored a)) same_tree
        ∙ ap (λ (y : Slot B). slot_left c t then_slots y (changed_at s work old.work a) (changed_at s [] old.restored a)) (slot_other a s old.slots slot there ne)
        ∙ ap (λ (y : Work B). slot_left c t then_slots (slot_at a old.slots) y (changed_at s [] old.restored a)) (changed_beside s work old.work a ne)
        ∙ ap (λ (y : List (Entry B)). slot_left c t then_slots (slot_at a old.slots) (old.work a) y) (changed_beside s [] old.restored a ne) in
        let more = slot_more (slot_at a old.slots) (old.work a) (old.restored a) in
        omega (arith, same, more)

    pub commit_frees : (transaction number : ℕ) → work_left c (slotted s slot work (with_record (Commit transaction number) old)) a ≤ work_left c old a + length freed
    commit_frees transaction number = freed_by (Commit transaction number) (ap tree_in (quiet_tree c l old w (Commit transaction number) refl refl refl))

    pub end_frees : (transaction : ℕ) → work_left c (slotted s slot work (with_record (End transaction) old)) a ≤ work_left c old a + length freed
    end_frees transaction = freed_by (End transaction) (ap tree_in (quiet_tree c l old w (End transaction) refl refl refl))
