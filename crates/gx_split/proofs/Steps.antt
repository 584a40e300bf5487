-- One step more of each fold of the split.
use Rattle.std.proofs.Common.{◌≡◌, ℕ, zero, suc, ◌+◌, ◌-◌, ◌<◌, ℤ, ◌≤ℤ◌, slice_index, Bool, true, false, cond, refl, ap, sym, ◌∙◌, subst, add-one, arith, ◌^◌, List, length, [], ◌∷◌, ◌++◌, All, Some, map, slice_get, take, get_or}
use Rattle.std.specs.Prelude.{int_lt, nat_lt}
use Rattle.std.proofs.lemmas.Int.{ints}
use Rattle.std.proofs.lemmas.List.{get_or-map, length-map, map-append, take_more}
use Rattle.std.proofs.lemmas.List.Elements.{All-push}
use Rattle.std.proofs.lemmas.Option.{slice_get-get_or}
use Rattle.gx_split.specs.declared.choice.Spread.{Spread}
use Rattle.gx_split.specs.declared.seeds.Candidate.{Candidate}
use Rattle.gx_split.specs.Sizes.{IsSizes}
use Rattle.gx_split.specs.Split.{Measure, Pair, pair, waste, waste_at, worse, worst_in_row, worst_in_rows, worst_pair, greatest_upto, first_greatest}

worse_second : (w : ℕ → ℕ → ℤ) (p q : Pair) (a b : ℤ) → a ≡ w p.lower p.higher → b ≡ w q.lower q.higher → int_lt a b ≡ true → worse w p q ≡ q
worse_second w p q a b pw qw h = ap (λ t. cond t q p) (ap (λ x. int_lt x (w q.lower q.higher)) (sym pw) ∙ ap (int_lt a) (sym qw) ∙ h)

worse_first : (w : ℕ → ℕ → ℤ) (p q : Pair) (a b : ℤ) → a ≡ w p.lower p.higher → b ≡ w q.lower q.higher → int_lt a b ≡ false → worse w p q ≡ p
worse_first w p q a b pw qw h = ap (λ t. cond t q p) (ap (λ x. int_lt x (w q.lower q.higher)) (sym pw) ∙ ap (int_lt a) (sym qw) ∙ h)

pub worst_in_row-none : (w : ℕ → ℕ → ℤ) (best : Pair) (i : ℕ) → worst_in_row w best i 0 ≡ best
unfolding worst_in_row
worst_in_row-none w best i = refl

pub worst_in_row-more : (w : ℕ → ℕ → ℤ) (best : Pair) (i k : ℕ) → worst_in_row w best i (k + 1) ≡ worse w (worst_in_row w best i k) (pair i (i + 1 + k))
unfolding worst_in_row
worst_in_row-more w best i k = rw (add-one k)

pub worst_in_rows-none : (w : ℕ → ℕ → ℤ) (n : ℕ) → worst_in_rows w n 0 ≡ pair 0 1
unfolding worst_in_rows
worst_in_rows-none w n = refl

pub worst_in_rows-more : (w : ℕ → ℕ → ℤ) (n m : ℕ) → worst_in_rows w n (m + 1) ≡ worst_in_row w (worst_in_rows w n m) m (n - 1 - m)
unfolding worst_in_rows
worst_in_rows-more w n m = rw (add-one m)

pub worst_pair-is : (w : ℕ → ℕ → ℤ) (n : ℕ) → worst_pair w n ≡ worst_in_rows w n (n - 1)
unfolding worst_pair
worst_pair-is w n = refl

-- the first worst of a row so far, with its waste
pub record IsWorstInRow (w : ℕ → ℕ → ℤ) (n : ℕ) (best : Pair) (i k : ℕ) (worst : Candidate) : Type 0 where
  pub slots : pair worst.lower worst.higher ≡ worst_in_row w best i k
  pub wastes : worst.waste ≡ w worst.lower worst.higher
  pub in_order : worst.lower < worst.higher
  pub within : worst.higher < n

row_by : (w : ℕ → ℕ → ℤ) (n : ℕ) (best : Pair) (i k : ℕ) (worst other : Candidate) (t : Bool) → int_lt worst.waste other.waste ≡ t → IsWorstInRow w n best i k worst
    → other.lower ≡ i → other.higher ≡ i + 1 + k → other.waste ≡ w other.lower other.higher → i + 1 + k < n → IsWorstInRow w n best i (k + 1) (cond t other worst)
row_by w n best i k worst other true h is lower higher wastes inside = record {
  slots =
      sym (worse_second w (pair worst.lower worst.higher) (pair other.lower other.higher) worst.waste other.waste is.wastes wastes h)
      ∙ ap (λ p. worse w p (pair other.lower other.higher)) is.slots
      ∙ ap (λ j. worse w (worst_in_row w best i k) (pair j other.higher)) lower ∙ ap (λ j. worse w (worst_in_row w best i k) (pair i j)) higher
      ∙ sym (worst_in_row-more w best i k);
  wastes = wastes;
  in_order = omega arith;
  within = omega arith;
}
row_by w n best i k worst other false h is lower higher wastes inside = record {
  slots =
      sym (worse_first w (pair worst.lower worst.higher) (pair other.lower other.higher) worst.waste other.waste is.wastes wastes h)
      ∙ ap (λ p. worse w p (pair other.lower other.higher)) is.slots
      ∙ ap (λ j. worse w (worst_in_row w best i k) (pair j other.higher)) lower ∙ ap (λ j. worse w (worst_in_row w best i k) (pair i j)) higher
      ∙ sym (worst_in_row-more w best i k);
  wastes = is.wastes;
  in_order = is.in_order;
  within = is.within;
}

-- a row's loop takes the other pair, or keeps the worst
pub row_goes_on : (w : ℕ → ℕ → ℤ) (n : ℕ) (best : Pair) (i k : ℕ) (worst other after : Candidate) → after ≡ cond (int_lt worst.waste other.waste) other worst
    → IsWorstInRow w n best i k worst → other.lower ≡ i → other.higher ≡ i + 1 + k → other.waste ≡ w other.lower other.higher → i + 1 + k < n
    → IsWorstInRow w n best i (k + 1) after
row_goes_on w n best i k worst other after is before lower higher wastes inside =
    subst (IsWorstInRow w n best i (k + 1)) (sym is) (row_by w n best i k worst other (int_lt worst.waste other.waste) refl before lower higher wastes inside)

no_less : (a b : ℤ) → b ≤ℤ a → int_lt a b ≡ false
no_less a b h = grind (arith, ints)

-- a row of which no pair wastes more than the best so far leaves it
pub row_keeps : (w : ℕ → ℕ → ℤ) (best : Pair) (i k : ℕ) → ((d : ℕ) → d < k → w i (i + 1 + d) ≤ℤ w best.lower best.higher) → worst_in_row w best i k ≡ best
row_keeps w best i zero each = worst_in_row-none w best i
row_keeps w best i (suc k) each =
    let before = row_keeps w best i k (λ d h. each d (omega arith)) in
    rw (← add-one k)
    (worst_in_row-more w best i k ∙ ap (λ p. worse w p (pair i (i + 1 + k))) before
    ∙ ap (λ t. cond t (pair i (i + 1 + k)) best) (no_less (w best.lower best.higher) (w i (i + 1 + k)) (each k (omega arith))))

-- if no key wastes more beside one, no pair of its slot does
pub row_wastes : {K : Type 0} (m : Measure K) (keys : List K) (i j : ℕ) (key : K) (worst best : ℤ) → slice_get keys i ≡ Some key → j < length keys
    → All (λ other. waste m key other ≤ℤ worst) keys → worst ≡ best → waste_at m keys i j ≤ℤ best
unfolding waste_at
row_wastes m keys i j key worst best at within all same =
    let other = get_or keys j key in
    subst (λ b. waste_at m keys i j ≤ℤ b) same
    (rw (at, slice_get-get_or keys j key within) (all j key within))

-- either of two by a test has what both have
pub either : {X : Type 0} (P : X → Type 0) (t : Bool) (a b : X) → P a → P b → P (cond t a b)
either P true a b p q = p
either P false a b p q = q

greatest_upto-more : (xs : List ℕ) (k : ℕ) → greatest_upto xs (k + 1) ≡ cond (nat_lt (slice_index xs (greatest_upto xs k)) (slice_index xs k)) k (greatest_upto xs k)
unfolding greatest_upto
greatest_upto-more xs k = rw (add-one k)

pub greatest_upto-none : (xs : List ℕ) → greatest_upto xs 0 ≡ 0
unfolding greatest_upto
greatest_upto-none xs = refl

pub first_greatest-is : (xs : List ℕ) → first_greatest xs ≡ greatest_upto xs (length xs)
unfolding first_greatest
first_greatest-is xs = refl

-- the place of the first greatest number so far, and that number
pub record IsWidest (xs : List ℕ) (k : ℕ) (widest : Spread) : Type 0 where
  pub place : widest.place ≡ greatest_upto xs k
  pub apart : widest.apart ≡ slice_index xs widest.place
  pub within : widest.place < length xs

test_is : (xs : List ℕ) (k : ℕ) (widest other : Spread) → IsWidest xs k widest → other.apart ≡ slice_index xs k
    → nat_lt (slice_index xs (greatest_upto xs k)) (slice_index xs k) ≡ nat_lt widest.apart other.apart
test_is xs k widest other is reads =
    ap (λ a. nat_lt a (slice_index xs k)) (ap (slice_index xs) (sym is.place) ∙ sym is.apart) ∙ ap (nat_lt widest.apart) (sym reads)

widest_by : (xs : List ℕ) (k : ℕ) (widest other : Spread) (t : Bool) → nat_lt widest.apart other.apart ≡ t → IsWidest xs k widest → other.place ≡ k → other.apart ≡ slice_index xs k
    → k < length xs → IsWidest xs (k + 1) (cond t other widest)
widest_by xs k widest other true h is at reads inside = record {
  place = at ∙ sym (greatest_upto-more xs k ∙ ap (λ (t : Bool). cond t k (greatest_upto xs k)) (test_is xs k widest other is reads ∙ h));
  apart = reads ∙ ap (slice_index xs) (sym at);
  within = omega arith;
}
widest_by xs k widest other false h is at reads inside = record {
  place = is.place ∙ sym (greatest_upto-more xs k ∙ ap (λ (t : Bool). cond t k (greatest_upto xs k)) (test_is xs k widest other is reads ∙ h));
  apart = is.apart;
  within = is.within;
}

-- the search goes to the next place, or stays
pub widest_goes_on : (xs : List ℕ) (k : ℕ) (widest other after : Spread) → after ≡ cond (nat_lt widest.apart other.apart) other widest → IsWidest xs k widest
    → other.place ≡ k → other.apart ≡ slice_index xs k → k < length xs → IsWidest xs (k + 1) after
widest_goes_on xs k widest other after is before at reads inside =
    subst (IsWidest xs (k + 1)) (sym is) (widest_by xs k widest other (nat_lt widest.apart other.apart) refl before at reads inside)

-- one size more
pub sizes_more : {K : Type 0} (size : K → ℕ) (keys : List K) (i : ℕ) (key : K) (s : ℕ) (sizes sizes' : List ℕ) → i < length keys → key ≡ get_or keys i key → s ≡ size key → size key < 2 ^ 126
    → sizes' ≡ sizes ++ s ∷ [] → IsSizes size (take i keys) sizes → IsSizes size (take (i + 1) keys) sizes'
sizes_more size keys i key s sizes sizes' within is is_size small pushed was = record {
  each =
      pushed ∙ ap (λ l. l ++ s ∷ []) was.each ∙ ap (λ z. map size (take i keys) ++ z ∷ []) (is_size ∙ ap size is)
      ∙ sym (map-append size (take i keys) (get_or keys i key ∷ [])) ∙ ap (map size) (sym (take_more keys i key within));
  small = subst (All (λ s. s < 2 ^ 126)) (sym pushed) (All-push (λ s. s < 2 ^ 126) sizes s was.small (omega arith));
}

pub sizes_long : {K : Type 0} (size : K → ℕ) (keys : List K) (sizes : List ℕ) → IsSizes size keys sizes → length sizes ≡ length keys
sizes_long size keys sizes is = ap length is.each ∙ length-map keys size

-- a key's size is at its slot
pub size_at : {K : Type 0} (size : K → ℕ) (keys : List K) (sizes : List ℕ) (i : ℕ) (key : K) → IsSizes size keys sizes → slice_get keys i ≡ Some key → i < length keys
    → (get_or sizes i 0 ≡ size key) × (get_or sizes i 0 < 2 ^ 126)
size_at size keys sizes i key is at within =
    let found : Some (get_or keys i key) ≡ Some key = sym (slice_get-get_or keys i key within) ∙ at in
    let read : get_or keys i key ≡ key = cc in
    let long = sizes_long size keys sizes is in
    (ap (λ l. get_or l i 0) is.each ∙ get_or-map size keys i key 0 within ∙ ap size read, is.small i 0 (omega (arith, long, within)))
