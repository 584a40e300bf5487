-- Numbers that rise, searched by halves.
use Rattle.std.proofs.Common.{◌≡◌, ℕ, ◌<◌, ◌≤◌, Bool, true, false, ◌||◌, ◌+◌, inl, inr, List, [], ◌∷◌, ◌++◌, length, get_or, refl, ap, sym, ◌∙◌, arith, insert, length-append, append-nil}
use Rattle.std.specs.Prelude.{Result, Ok, Err, ◌==◌, nat_lt}
use Rattle.std.specs.Result.{MatchResult}
use Rattle.std.specs.List.Sorted.{IsNonDecreasing, IsBinarySearchResult, IsPermutation, IsSearchInRange}
use Rattle.std.specs.Ordering.{nat_cmp}
use Rattle.std.proofs.lemmas.Bool.{eq-eqb, eqb-true, ltb-true, ltb-false, true≢false}
use Rattle.std.proofs.Math.Bool.{or-false}
use Rattle.std.proofs.lemmas.List.{get_or_default}
use Rattle.std.proofs.lemmas.List.Edits.{length-insert}
use Rattle.std.proofs.lemmas.List.Folds.{list_any_at, list_any_none, list_any-append}
use Rattle.std.proofs.lemmas.List.Sorted.{searched, IsNonDecreasingBy-insert, IsPermutation-insert, list_any-IsPermutation, length_permutation}
use Rattle.std.proofs.lemmas.Map.Lookups.{exact_unsigned}
use Rattle.gx_recovery.proofs.Tests.{true_or_false}
use Rattle.gx_recovery.specs.Kept.{is_closed, ClosesOne}

apart_number : (a b : ℕ) → (a ≡ b → ⊥) → (a == b) ≡ false
apart_number a b h = elim (true_or_false (a == b)) [ inl is ↦ absurd (h (eqb-true a b is)) | inr other ↦ other ]

-- what a search finds: the number, or the place where it goes so that the numbers still rise
pub number_searched : (t : ℕ) (xs : List ℕ) (r : Result ℕ ℕ) → IsNonDecreasing xs → IsSearchInRange r (length xs)
    → IsBinarySearchResult (λ y. nat_cmp y t) xs r
    → MatchResult r (λ i. is_closed t xs ≡ true) (λ i. (i ≤ length xs) × (is_closed t xs ≡ false) × IsNonDecreasing (insert xs i t))
number_searched t xs (Ok i) rise within found =
    list_any_at (λ u. u == t) xs i 0 within (eq-eqb (get_or xs i 0) t (exact_unsigned (get_or xs i 0) t (found 0)))
number_searched t xs (Err i) rise within found =
    let parted : (i ≤ length xs) × ((k : ℕ) → k < i → get_or xs k 0 < t) × ((k : ℕ) → i ≤ k → k < length xs → t < get_or xs k 0) =
    searched xs t (Err i) found (λ a b le lt. rise a b 0 le lt) in
    let below : (k d : ℕ) → k < i → get_or xs k d < t = λ k d lt. (
    let same : get_or xs k d ≡ get_or xs k 0 = get_or_default xs k d 0 (omega arith) in
    let first : get_or xs k 0 < t = parted.1 k lt in omega arith) in
    let above : (k d : ℕ) → i ≤ k → k < length xs → t < get_or xs k d = λ k d le lt. (
    let same : get_or xs k d ≡ get_or xs k 0 = get_or_default xs k d 0 lt in
    let first : t < get_or xs k 0 = parted.2 k le lt in omega arith) in
    let differs : (k d : ℕ) → k < length xs → get_or xs k d ≡ t → ⊥ = λ k d lt is. (
    let low : k < i → ⊥ = λ under. (let f : get_or xs k d < t = below k d under in omega arith) in
    let high : i ≤ k → ⊥ = λ over. (let f : t < get_or xs k d = above k d over lt in omega arith) in
    elim (true_or_false (nat_lt k i)) [ inl under ↦ low (ltb-true k i under) | inr over ↦ high (ltb-false k i over) ]) in (
      parted.0,
      list_any_none (λ u. u == t) xs (λ k d lt. apart_number (get_or xs k d) t (differs k d lt)),
      IsNonDecreasingBy-insert (λ x. x) xs i t rise parted.0
          (λ k d lt. (let f : get_or xs k d < t = below k d lt in omega arith)) (λ k d le lt. (let f : t < get_or xs k d = above k d le lt in omega arith)),
    )

or_turned : (a b : Bool) → (a || b) ≡ (b || a)
or_turned true true = refl
or_turned true false = refl
or_turned false b = sym (or-false b)

-- with one number more
pub one_more : (t : ℕ) (xs : List ℕ) (i : ℕ) → i ≤ length xs → ClosesOne t xs (insert xs i t)
one_more t xs i within = record {
  has = λ u. sym (list_any-IsPermutation (λ x. x == u) (t ∷ xs) (insert xs i t) (IsPermutation-insert xs i t)) ∙ or_turned (t == u) (is_closed u xs);
  count = length-insert xs i t within;
}

or_joined : (a b c : Bool) → (a || (b || c)) ≡ ((a || b) || c)
or_joined true b c = refl
or_joined false b c = refl

neither : (a b : Bool) → (a || b) ≡ false → (a ≡ false) × (b ≡ false)
neither true b is = absurd (true≢false is)
neither false b is = (refl, is)

-- a number that is among neither of two lists
pub among_neither : (t : ℕ) (xs ys : List ℕ) → is_closed t (xs ++ ys) ≡ false → (is_closed t xs ≡ false) × (is_closed t ys ≡ false)
among_neither t xs ys is = neither (is_closed t xs) (is_closed t ys) (sym (list_any-append (λ u. u == t) xs ys) ∙ is)

-- with one number more among the last ones
pub closes_behind : (t : ℕ) (xs ys zs : List ℕ) → ClosesOne t ys zs → ClosesOne t (xs ++ ys) (xs ++ zs)
closes_behind t xs ys zs one = record {
  has = λ u.
      list_any-append (λ v. v == u) xs zs ∙ ap (λ (b : Bool). is_closed u xs || b) (one.has u) ∙ or_joined (is_closed u xs) (is_closed u ys) (t == u)
      ∙ ap (λ (b : Bool). b || t == u) (sym (list_any-append (λ v. v == u) xs ys));
  count = omega (arith, length-append xs ys, length-append xs zs, one.count);
}

-- and where all are then sorted, so that none is left
pub closes_sorted : (t : ℕ) (xs ys zs all none : List ℕ) → ClosesOne t ys zs → IsPermutation (xs ++ zs) all → none ≡ [] → ClosesOne t (xs ++ ys) (all ++ none)
closes_sorted t xs ys zs all none one same is =
    let behind = closes_behind t xs ys zs one in
    rw (is, append-nil) (record {
      has = λ u. sym (list_any-IsPermutation (λ v. v == u) (xs ++ zs) all same) ∙ behind.has u;
      count = length_permutation (xs ++ zs) all same ∙ behind.count;
    })

-- and where these are then sorted among others
pub closes_twice : (t : ℕ) (ws xs ys zs later none : List ℕ) → ClosesOne t xs (ys ++ none) → none ≡ [] → IsPermutation (ws ++ ys) zs → later ≡ [] → ClosesOne t (ws ++ xs) (zs ++ (later ++ none))
closes_twice t ws xs ys zs later none one is same gone =
    let now : ClosesOne t xs ys = rw (is, append-nil) at one in
    rw (gone, is) (closes_sorted t ws xs ys zs [] now same refl)

-- of which there are few enough
pub few_joined : (t : ℕ) (ws xs ys zs later : List ℕ) (most : ℕ) → ClosesOne t ys zs → IsPermutation (xs ++ zs) later → length (ws ++ (xs ++ ys)) < most → length ws + length later ≤ most
few_joined t ws xs ys zs later most one same few =
    omega (arith, length_permutation (xs ++ zs) later same, length-append xs zs, length-append ws (xs ++ ys), length-append xs ys, one.count)
