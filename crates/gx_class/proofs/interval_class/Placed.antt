-- Counting a key's place, and putting sides one by one.
use Rattle.std.proofs.Common.{◌≡◌, ℕ, ◌+◌, ◌<◌, ◌≤◌, Bool, true, false, List, ◌∷◌, [], ◌++◌, ap, sym, ◌∙◌, arith, take, length, get_or, zero-add}
use Rattle.std.specs.Prelude.{slice_set, nat_le, count_by}
use Rattle.std.specs.List.{enumerate_from}
use Rattle.std.specs.Cmp.{IsTotalOrder}
use Rattle.std.specs.declared.cmp.Ordering.{Ordering}
use Rattle.std.proofs.lemmas.List.{take_all, take_more, take_more_set}
use Rattle.std.proofs.lemmas.List.Sums.{count_by_more_yes, count_by_more_no}
use Rattle.std.proofs.lemmas.List.FromFn.{length-enumerate_from, get_or-enumerate_from}
use Rattle.gx_class.specs.Halving.{place_among, first_half, halves_by_order}
use Rattle.gx_class.specs.HalvingLaws.{side_at, sides_long}

module _ {K : Type 0} (keys : List K) (i : ℕ) (key : K) (within : i < length keys) (is : key ≡ get_or keys i key) where
  slotted_at : get_or (enumerate_from 0 keys) i (0, key) ≡ (i, key)
  slotted_at = get_or-enumerate_from 0 keys i (0, key) within ∙ ap (λ (n : ℕ). (n, get_or keys i key)) (zero-add i) ∙ ap (λ (x : K). (i, x)) (sym is)

  slots_within : i < length (enumerate_from 0 keys)
  slots_within = let long = length-enumerate_from 0 keys in omega (arith, long)

  pub counted_one : (p : ℕ × K → Bool) → p (i, key) ≡ true → count_by p (take (i + 1) (enumerate_from 0 keys)) ≡ count_by p (take i (enumerate_from 0 keys)) + 1
  counted_one p passes = count_by_more_yes p (enumerate_from 0 keys) i (0, key) slots_within (ap p slotted_at ∙ passes)

  pub counted_none : (p : ℕ × K → Bool) → p (i, key) ≡ false → count_by p (take (i + 1) (enumerate_from 0 keys)) ≡ count_by p (take i (enumerate_from 0 keys))
  counted_none p fails = count_by_more_no p (enumerate_from 0 keys) i (0, key) slots_within (ap p slotted_at ∙ fails)

  -- one more key has its side
  pub side_more : (cmp : K → K → Ordering) → IsTotalOrder cmp → (sides : List Bool) (n : ℕ) (side : Bool) → length sides ≡ length keys → n ≡ place_among cmp keys (i, key)
      → side ≡ nat_le (first_half (length keys)) n → take i sides ≡ take i (halves_by_order cmp keys)
      → take (i + 1) (slice_set sides i side) ≡ take (i + 1) (halves_by_order cmp keys)
  side_more cmp total sides n side long place is_side before =
      let halves_long = sides_long cmp total keys in
      take_more_set sides i side (omega (arith, long))
      ∙ ap (λ (l : List Bool). l ++ side ∷ []) before
      ∙ ap (λ (s : Bool). take i (halves_by_order cmp keys) ++ s ∷ [])
      (is_side ∙ ap (nat_le (first_half (length keys))) (place ∙ ap (λ (x : K). place_among cmp keys (i, x)) is) ∙ sym (side_at cmp total keys i key true within))
      ∙ sym (take_more (halves_by_order cmp keys) i true (omega (arith, halves_long)))

pub all_counted : {K : Type 0} (keys : List K) (i : ℕ) → length keys ≤ i → take i (enumerate_from 0 keys) ≡ enumerate_from 0 keys
all_counted keys i past = let long = length-enumerate_from 0 keys in take_all i (enumerate_from 0 keys) (omega (arith, long))

pub all_sides : {K : Type 0} (cmp : K → K → Ordering) → IsTotalOrder cmp → (keys : List K) (sides : List Bool) (i : ℕ) → length sides ≡ length keys → length keys ≤ i
    → take i sides ≡ take i (halves_by_order cmp keys) → sides ≡ halves_by_order cmp keys
all_sides cmp total keys sides i long past same =
    let halves_long = sides_long cmp total keys in
    sym (take_all i sides (omega (arith, long))) ∙ same ∙ take_all i (halves_by_order cmp keys) (omega (arith, halves_long))
