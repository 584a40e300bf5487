-- Keys divided in two halves by their order.
use Rattle.std.specs.Prelude.{◌≡◌, ℕ, ◌+◌, ◌/◌, ◌<◌, nat_le, Bool, true, false, not, List, length, map, count_by}
use Rattle.std.specs.List.{enumerate_from, slice_index_or}
use Rattle.std.specs.Ordering.{is_lt, nat_cmp, ordering_then}
use Rattle.std.specs.declared.cmp.Ordering.{Ordering}

-- of two keys with their slots, which comes first: by key, then by slot
abbrev pub slotted_cmp : {K : Type 0} → (K → K → Ordering) → ℕ × K → ℕ × K → Ordering
slotted_cmp cmp a b = ordering_then (cmp a.1 b.1) (nat_cmp a.0 b.0)

abbrev pub comes_before : {K : Type 0} → (K → K → Ordering) → ℕ × K → ℕ × K → Bool
comes_before cmp a b = is_lt (slotted_cmp cmp a b)

-- a key's place among keys in order: how many come before it
abbrev pub place_among : {K : Type 0} → (K → K → Ordering) → List K → ℕ × K → ℕ
place_among cmp keys x = count_by (λ y. comes_before cmp y x) (enumerate_from 0 keys)

-- how many go to the first half, which has the odd one
abbrev pub first_half : ℕ → ℕ
first_half n = (n + 1) / 2

-- the side of each key: the second if its place is past the first half
abbrev pub halves_by_order : {K : Type 0} → (K → K → Ordering) → List K → List Bool
halves_by_order cmp keys = map (λ x. nat_le (first_half (length keys)) (place_among cmp keys x)) (enumerate_from 0 keys)

-- the keys are divided so: the first side has the first half, the second the rest, and each key of the first comes
-- before each of the second
pub record IsHalvedInOrder {K : Type 0} (cmp : K → K → Ordering) (keys : List K) (sides : List Bool) : Type 0 where
  pub each_has_one : length sides ≡ length keys
  pub first_has : count_by not sides ≡ first_half (length keys)
  pub second_has : count_by (λ side. side) sides ≡ length keys / 2
  pub in_order : (i j : ℕ) (d : K) → i < length keys → j < length keys → slice_index_or sides i true ≡ false → slice_index_or sides j false ≡ true
      → comes_before cmp (i, slice_index_or keys i d) (j, slice_index_or keys j d) ≡ true
