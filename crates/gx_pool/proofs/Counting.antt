-- How many items of a list pass a test.
use Rattle.std.proofs.Common.{◌≡◌, ◌∙◌, ap, refl, ℕ, zero, suc, ◌+◌, ◌<◌, ◌≤◌, List, [], ◌∷◌, length, get_or, get_or-set_other, length-set, set, count_by, Bool, true, false, cond, subst, sym, arith}
use Rattle.std.proofs.lemmas.List.Sums.{sum_by-cons, sum_by-set}

-- one more item
pub count_next : {A : Type 0} → (p : A → Bool) (x : A) (xs : List A) (passes : Bool) → p x ≡ passes → count_by p (x ∷ xs) ≡ cond passes 1 0 + count_by p xs
count_next p x xs passes is = sum_by-cons (λ y. cond (p y) 1 0) x xs ∙ ap (λ b. cond b 1 0 + count_by p xs) is

-- none passes
pub none_counted : {A : Type 0} → (p : A → Bool) (xs : List A) (d : A) → ((k : ℕ) → k < length xs → p (get_or xs k d) ≡ false) → count_by p xs ≡ 0
none_counted p [] d none = refl
none_counted p (x ∷ xs) d none =
    let next = count_next p x xs false (none 0 (omega arith)) in
    let rest = none_counted p xs d (λ k below. none (suc k) (omega arith)) in
    omega (arith, next, rest)

Counted : {A : Type 0} → (A → Bool) → List A → A → Type 0
Counted p xs d = (k : ℕ) × (k < length xs) × (p (get_or xs k d) ≡ true)

some_next : {A : Type 0} → (p : A → Bool) (x : A) (xs : List A) (d : A) (passes : Bool) → p x ≡ passes → (0 < count_by p xs → Counted p xs d) → 0 < count_by p (x ∷ xs) → Counted p (x ∷ xs) d
unfolding Counted
some_next p x xs d true is rest positive = (0, omega arith, is)
some_next p x xs d false is rest positive =
    let next = count_next p x xs false is in
    let there = rest (omega (arith, next)) in
    (suc there.0, omega (arith, there.1), there.2)

-- one passes
pub some_counted : {A : Type 0} → (p : A → Bool) (xs : List A) (d : A) → 0 < count_by p xs → (k : ℕ) × (k < length xs) × (p (get_or xs k d) ≡ true)
unfolding Counted
some_counted p [] d positive = absurd (omega arith)
some_counted p (x ∷ xs) d positive = some_next p x xs d (p x) refl (some_counted p xs d) positive

-- if one that passed is one that doesn't, one fewer passes
pub one_fewer : {A : Type 0} → (p : A → Bool) (xs : List A) (i : ℕ) (x d : A) → i < length xs → p (get_or xs i d) ≡ true → p x ≡ false → count_by p (set xs i x) + 1 ≡ count_by p xs
one_fewer p xs i x d inside was is =
    let all = sum_by-set (λ y. cond (p y) 1 0) xs i x d inside in
    let old : (let n : ℕ = cond (p (get_or xs i d)) 1 0 in n) ≡ 1 = ap (λ b. cond b 1 0) was in
    let new : (let n : ℕ = cond (p x) 1 0 in n) ≡ 0 = ap (λ b. cond b 1 0) is in
    omega (arith, all, old, new)

-- how many pass, once one item is another
pub counted_set : {A : Type 0} → (p : A → Bool) (xs : List A) (i : ℕ) (x d : A) → i < length xs → count_by p (set xs i x) + cond (p (get_or xs i d)) 1 0 ≡ count_by p xs + cond (p x) 1 0
counted_set p xs i x d inside = sum_by-set (λ y. cond (p y) 1 0) xs i x d inside

-- and if both pass or neither, as many
pub as_many : {A : Type 0} → (p : A → Bool) (xs : List A) (i : ℕ) (x d : A) → i < length xs → p (get_or xs i d) ≡ p x → count_by p (set xs i x) ≡ count_by p xs
as_many p xs i x d inside same =
    let all = counted_set p xs i x d inside in
    let one : (let n : ℕ = cond (p (get_or xs i d)) 1 0 in n) ≡ cond (p x) 1 0 = ap (λ b. cond b 1 0) same in
    omega (arith, all, one)

-- if one that didn't pass is one that does, one more passes
pub one_more : {A : Type 0} → (p : A → Bool) (xs : List A) (i : ℕ) (x d : A) → i < length xs → p (get_or xs i d) ≡ false → p x ≡ true → count_by p (set xs i x) ≡ count_by p xs + 1
one_more p xs i x d inside was is =
    let all = counted_set p xs i x d inside in
    let old : (let n : ℕ = cond (p (get_or xs i d)) 1 0 in n) ≡ 0 = ap (λ b. cond b 1 0) was in
    let new : (let n : ℕ = cond (p x) 1 0 in n) ≡ 1 = ap (λ b. cond b 1 0) is in
    omega (arith, all, old, new)

-- an item that passes is counted
pub counted_at : {A : Type 0} → (p : A → Bool) (xs : List A) (i : ℕ) (d : A) → i < length xs → cond (p (get_or xs i d)) 1 0 ≤ count_by p xs
counted_at p [] i d inside = absurd (omega arith)
counted_at p (x ∷ xs) zero d inside = let next = count_next p x xs (p x) refl in omega (arith, next)
counted_at p (x ∷ xs) (suc i) d inside =
    let next = count_next p x xs (p x) refl in
    let rest = counted_at p xs i d (omega arith) in
    omega (arith, next, rest)

-- if each item that passes one of two tests passes a third, and no other does, the counts add up
pub counts_joined : {A : Type 0} → (p q r : A → Bool) (xs : List A) → ((x : A) → cond (p x) 1 0 + cond (q x) 1 0 ≡ cond (r x) 1 0) → count_by p xs + count_by q xs ≡ count_by r xs
counts_joined p q r [] each = refl
counts_joined p q r (x ∷ xs) each =
    let one = count_next p x xs (p x) refl in
    let two = count_next q x xs (q x) refl in
    let all = count_next r x xs (r x) refl in
    let rest = counts_joined p q r xs each in
    omega (arith, one, two, all, rest, each x)

-- if each item passes one of three tests, all are counted
pub all_counted : {A : Type 0} → (p q r : A → Bool) (xs : List A) → ((x : A) → cond (p x) 1 0 + cond (q x) 1 0 + cond (r x) 1 0 ≡ 1) → count_by p xs + count_by q xs + count_by r xs ≡ length xs
all_counted p q r [] each = refl
all_counted p q r (x ∷ xs) each =
    let one = count_next p x xs (p x) refl in
    let two = count_next q x xs (q x) refl in
    let three = count_next r x xs (r x) refl in
    let rest = all_counted p q r xs each in
    omega (arith, one, two, three, rest, each x)

pub false_of : (b : Bool) → (b ≡ true → ⊥) → b ≡ false
false_of true never = absurd (never refl)
false_of false never = refl

-- if only the item at one place may pass, it alone is counted
pub one_counted : {A : Type 0} → (p : A → Bool) (xs : List A) (i : ℕ) (d : A) → i < length xs → ((k : ℕ) → k < length xs → p (get_or xs k d) ≡ true → k ≡ i) → count_by p xs ≡ cond (p (get_or xs i d)) 1 0
one_counted p [] i d inside only = absurd (omega arith)
one_counted p (x ∷ xs) zero d inside only =
    let next = count_next p x xs (p x) refl in
    let rest = none_counted p xs d (λ k below. false_of (p (get_or xs k d)) (λ is. let one = only (suc k) (omega arith) is in omega (arith, one))) in
    omega (arith, next, rest)
one_counted p (x ∷ xs) (suc i) d inside only =
    let next = count_next p x xs false (false_of (p x) (λ is. let one = only 0 (omega arith) is in omega (arith, one))) in
    let rest = one_counted p xs i d (omega arith) (λ k below is. let one = only (suc k) (omega arith) is in omega (arith, one)) in
    omega (arith, next, rest)

module _ {A : Type 0} (p : A → Bool) (d : A) where
  -- each item that passes has one that passes in another list, and no two have the same
  pub record Matched (xs ys : List A) (to : ℕ → ℕ) : Type 0 where
    pub there : (k : ℕ) → k < length xs → p (get_or xs k d) ≡ true → (to k < length ys) × (p (get_or ys (to k) d) ≡ true)
    pub apart : (j k : ℕ) → j < length xs → k < length xs → p (get_or xs j d) ≡ true → p (get_or xs k d) ≡ true → to j ≡ to k → j ≡ k

  -- all but the first
  matched_rest : (x : A) (xs ys : List A) (to : ℕ → ℕ) → Matched (x ∷ xs) ys to → Matched xs ys (λ k. to (suc k))
  matched_rest x xs ys to matched = record {
    there = λ k below is. matched.there (suc k) (omega (arith, below)) is;
    apart = λ j k one other is so same. let e = matched.apart (suc j) (suc k) (omega (arith, one)) (omega (arith, other)) is so same in omega (arith, e);
  }

  -- once the first's is taken away
  matched_fewer : (x : A) (xs ys : List A) (to : ℕ → ℕ) → p x ≡ true → Matched (x ∷ xs) ys to → Matched xs (set ys (to 0) d) (λ k. to (suc k))
  matched_fewer x xs ys to first matched =
      let rest = matched_rest x xs ys to matched in
      record {
        there = λ k below is.
            (let there = rest.there k below is in (
              subst (λ n. to (suc k) < n) (sym (length-set ys (to 0) d)) there.0,
              ap p (get_or-set_other ys (to 0) (to (suc k)) d d (λ e. let one = matched.apart (suc k) 0 (omega (arith, below)) (omega arith) is first e in omega (arith, one))) ∙ there.1,
            ));
        apart = rest.apart;
      }

  matched_next : p d ≡ false → (x : A) (xs ys : List A) (to : ℕ → ℕ) (passes : Bool) → p x ≡ passes
      → ((zs : List A) → Matched xs zs (λ k. to (suc k)) → count_by p xs ≤ count_by p zs) → Matched (x ∷ xs) ys to → count_by p (x ∷ xs) ≤ count_by p ys
  matched_next none x xs ys to true is rest matched =
      let first = matched.there 0 (omega arith) is in
      let next = count_next p x xs true is in
      let fewer = one_fewer p ys (to 0) d d first.0 first.1 none in
      let few = rest (set ys (to 0) d) (matched_fewer x xs ys to is matched) in
      omega (arith, next, fewer, few)
  matched_next none x xs ys to false is rest matched =
      let next = count_next p x xs false is in
      let few = rest ys (matched_rest x xs ys to matched) in
      omega (arith, next, few)

  -- so no more pass
  pub no_more_counted : p d ≡ false → (xs ys : List A) (to : ℕ → ℕ) → Matched xs ys to → count_by p xs ≤ count_by p ys
  no_more_counted none [] ys to matched = omega arith
  no_more_counted none (x ∷ xs) ys to matched = matched_next none x xs ys to (p x) refl (λ zs. no_more_counted none xs zs (λ k. to (suc k))) matched
