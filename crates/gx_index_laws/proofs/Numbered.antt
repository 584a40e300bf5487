-- The transactions of a list of touches, each once, and what each has, in a list of so many.
use Rattle.std.proofs.Common.{◌≡◌, ℕ, zero, suc, ◌+◌, ◌<◌, ◌≤◌, Bool, true, false, ◌||◌, ◌⊎◌, inl, inr, cond, List, [], ◌∷◌, length, refl, ap, sym, ◌∙◌, subst, arith}
use Rattle.std.specs.Prelude.{◌==◌, if◌then◌else◌, sum_by}
use Rattle.std.specs.List.{list_any, slice_index_or, filter}
use Rattle.std.specs.Cmp.{nat_eq_equiv}
use Rattle.std.proofs.Math.Path.{fun_ext}
use Rattle.std.proofs.lemmas.Bool.{eqb-true}
use Rattle.std.proofs.lemmas.List.Sums.{sum_by-cons}
use Rattle.gx_node.specs.Lists.{sum_over, one_if}
use Rattle.gx_node.proofs.Sums.{sum_over_add}
use Rattle.gx_recovery.specs.Records.{Touch}
use Rattle.gx_recovery.specs.Damage.{transactions}
use Rattle.gx_recovery.proofs.Tests.{true_or_false, either_of, or_second, or_none_first, or_none_second, itself}
use Rattle.gx_index_laws.specs.Openings.{numbers_of, listed_for}

pub or_first : (a b : Bool) → a ≡ true → (a || b) ≡ true
or_first true b h = refl
or_first false b h = cc

not_both : {A : Type 0} → (b : Bool) → b ≡ true → b ≡ false → A
not_both b t f = let no : ⊥ = cc in absurd no

-- a number is one of these
abbrev pub is_in : ℕ → List ℕ → Bool
is_in t ts = list_any (λ u. u == t) ts

-- a transaction touched something
abbrev pub touches : {E : Type 0} → ℕ → List (Touch E) → Bool
touches t xs = list_any (λ x. x.transaction == t) xs

-- each of these is none of those that follow it
abbrev pub Distinct : List ℕ → Type 0
Distinct [] = Unit {0}
Distinct (t ∷ ts) = (is_in t ts ≡ false) × Distinct ts

module _ {E : Type 0} where
  touch_alike : (x : Touch E) (t : ℕ) (xs : List (Touch E)) → (x.transaction == t) ≡ true → touches x.transaction xs ≡ true → touches t xs ≡ true
  touch_alike x t xs is h = subst (λ u. touches u xs ≡ true) (eqb-true x.transaction t is) h

  in_by : (t : ℕ) (x : Touch E) (xs : List (Touch E)) (b : Bool) → touches x.transaction xs ≡ b → (touches t xs ≡ true → is_in t (numbers_of xs) ≡ true)
      → touches t (x ∷ xs) ≡ true → is_in t (if b then numbers_of xs else x.transaction ∷ numbers_of xs) ≡ true
  in_by t x xs true again later h =
      elim (either_of (x.transaction == t) (touches t xs) h) [
        | inl is ↦ later (touch_alike x t xs is again)
        | inr rest ↦ later rest
      ]
  in_by t x xs false again later h =
      elim (either_of (x.transaction == t) (touches t xs) h) [
        | inl is ↦ or_first (x.transaction == t) (is_in t (numbers_of xs)) is
        | inr rest ↦ or_second (x.transaction == t) (is_in t (numbers_of xs)) (later rest)
      ]

  -- a transaction that touched something is one of the numbers
  pub touching_in : (t : ℕ) (xs : List (Touch E)) → touches t xs ≡ true → is_in t (numbers_of xs) ≡ true
  touching_in t [] h = cc
  touching_in t (x ∷ xs) h = in_by t x xs (touches x.transaction xs) refl (touching_in t xs) h

  of_by : (t : ℕ) (x : Touch E) (xs : List (Touch E)) (b : Bool) → (is_in t (numbers_of xs) ≡ true → touches t xs ≡ true)
      → is_in t (if b then numbers_of xs else x.transaction ∷ numbers_of xs) ≡ true → touches t (x ∷ xs) ≡ true
  of_by t x xs true later h = or_second (x.transaction == t) (touches t xs) (later h)
  of_by t x xs false later h =
      elim (either_of (x.transaction == t) (is_in t (numbers_of xs)) h) [
        | inl is ↦ or_first (x.transaction == t) (touches t xs) is
        | inr rest ↦ or_second (x.transaction == t) (touches t xs) (later rest)
      ]

  -- and no other is
  pub in_touching : (t : ℕ) (xs : List (Touch E)) → is_in t (numbers_of xs) ≡ true → touches t xs ≡ true
  in_touching t [] h = cc
  in_touching t (x ∷ xs) h = of_by t x xs (touches x.transaction xs) (in_touching t xs) h

  distinct_by : (x : Touch E) (xs : List (Touch E)) (b : Bool) → touches x.transaction xs ≡ b → Distinct (numbers_of xs)
      → Distinct (if b then numbers_of xs else x.transaction ∷ numbers_of xs)
  distinct_by x xs true again rest = rest
  distinct_by x xs false once rest = (
    elim (true_or_false (is_in x.transaction (numbers_of xs))) [
      | inl is ↦ not_both (touches x.transaction xs) (in_touching x.transaction xs is) once
      | inr other ↦ other
    ],
    rest,
  )

  pub numbers_distinct : (xs : List (Touch E)) → Distinct (numbers_of xs)
  numbers_distinct [] = tt
  numbers_distinct (x ∷ xs) = distinct_by x xs (touches x.transaction xs) refl (numbers_distinct xs)

  counted_by : (x : Touch E) (xs : List (Touch E)) (b : Bool) → length (numbers_of xs) ≡ transactions xs
      → length (if b then numbers_of xs else x.transaction ∷ numbers_of xs) ≡ (if b then transactions xs else transactions xs + 1)
  counted_by x xs true rest = rest
  counted_by x xs false rest = omega (arith, rest)

  pub numbers_counted : (xs : List (Touch E)) → length (numbers_of xs) ≡ transactions xs
  numbers_counted [] = refl
  numbers_counted (x ∷ xs) = counted_by x xs (touches x.transaction xs) (numbers_counted xs)

-- where a number is
pub record IsAt (t : ℕ) (ts : List ℕ) : Type 0 where
  pub place : ℕ
  pub low : place < length ts
  pub at : slice_index_or ts place 0 ≡ t

pub placed_in : (t : ℕ) (ts : List ℕ) → is_in t ts ≡ true → IsAt t ts
placed_in t [] h = cc
placed_in t (u ∷ ts) h =
    elim (either_of (u == t) (is_in t ts) h) [
      | inl is ↦ record { place = 0; low = omega arith; at = eqb-true u t is }
      | inr rest ↦
          (let later : IsAt t ts = placed_in t ts rest in
          let low : later.place < length ts = later.low in
          record { place = suc later.place; low = omega (arith, low); at = later.at })
    ]

pub in_placed : (ts : List ℕ) (i : ℕ) → i < length ts → is_in (slice_index_or ts i 0) ts ≡ true
in_placed [] i low = absurd (omega arith)
in_placed (u ∷ ts) zero low = or_first (u == u) (is_in u ts) (itself u)
in_placed (u ∷ ts) (suc i) low = or_second (u == slice_index_or ts i 0) (is_in (slice_index_or ts i 0) ts) (in_placed ts i (omega (arith, low)))

-- distinct numbers at two places are at one
pub one_place : (ts : List ℕ) (i j : ℕ) → Distinct ts → i < length ts → j < length ts → slice_index_or ts i 0 ≡ slice_index_or ts j 0 → i ≡ j
one_place [] i j d p q same = absurd (omega arith)
one_place (u ∷ ts) zero zero d p q same = refl
one_place (u ∷ ts) zero (suc j) d p q same =
    not_both (is_in u ts) (subst (λ v. is_in v ts ≡ true) (sym same) (in_placed ts j (omega (arith, q)))) d.0
one_place (u ∷ ts) (suc i) zero d p q same =
    not_both (is_in u ts) (subst (λ v. is_in v ts ≡ true) same (in_placed ts i (omega (arith, p)))) d.0
one_place (u ∷ ts) (suc i) (suc j) d p q same = ap suc (one_place ts i j d.1 (omega (arith, p)) (omega (arith, q)) same)

module _ {X : Type 0} (f : ℕ → List X) where
  -- what is listed at a place is nothing, or what the number there has
  pub listed_at : (n i : ℕ) (ts : List ℕ)
      → (slice_index_or (listed_for n f ts) i [] ≡ []) ⊎ ((i < length ts) × (slice_index_or (listed_for n f ts) i [] ≡ f (slice_index_or ts i 0)))
  listed_at zero i ts = inl refl
  listed_at (suc n) zero [] = inl refl
  listed_at (suc n) (suc i) [] =
      elim (listed_at n i []) [
        | inl none ↦ inl none
        | inr some ↦ (let low = some.0 in absurd (omega (arith, low)))
      ]
  listed_at (suc n) zero (t ∷ ts) = inr (omega arith, refl)
  listed_at (suc n) (suc i) (t ∷ ts) =
      elim (listed_at n i ts) [
        | inl none ↦ inl none
        | inr some ↦ inr ((let low = some.0 in omega (arith, low)), some.1)
      ]

  pub listed_there : (n i : ℕ) (ts : List ℕ) → i < n → i < length ts → slice_index_or (listed_for n f ts) i [] ≡ f (slice_index_or ts i 0)
  listed_there zero i ts p q = absurd (omega arith)
  listed_there (suc n) i [] p q = absurd (omega arith)
  listed_there (suc n) zero (t ∷ ts) p q = refl
  listed_there (suc n) (suc i) (t ∷ ts) p q = listed_there n i ts (omega (arith, p)) (omega (arith, q))

  pub so_many : (n : ℕ) (ts : List ℕ) → length (listed_for n f ts) ≡ n
  so_many zero ts = refl
  so_many (suc n) [] = ap suc (so_many n [])
  so_many (suc n) (t ∷ ts) = ap suc (so_many n ts)

  -- their sizes together
  pub listed_sum : (n : ℕ) (ts : List ℕ) → sum_by length (listed_for n f ts) ≤ sum_over (λ t. length (f t)) ts
  listed_sum zero ts = omega arith
  listed_sum (suc n) [] = omega (arith, listed_sum n [], sum_by-cons {X = List X} length [] (listed_for n f []))
  listed_sum (suc n) (t ∷ ts) = omega (arith, listed_sum n ts, sum_by-cons length (f t) (listed_for n f ts))

turned : (a b : ℕ) → (a == b) ≡ (b == a)
turned a b = nat_eq_equiv.symm a b

none_found : (u : ℕ) (ts : List ℕ) → is_in u ts ≡ false → sum_over (λ t. one_if (u == t)) ts ≡ 0
none_found u [] h = refl
none_found u (t ∷ ts) h =
    let here : one_if (u == t) ≡ 0 = ap one_if (turned u t ∙ or_none_first (t == u) (is_in u ts) h) in
    let rest : sum_over (λ v. one_if (u == v)) ts ≡ 0 = none_found u ts (or_none_second (t == u) (is_in u ts) h) in
    omega (arith, here, rest)

-- of distinct numbers at most one is a given one
found_once : (u : ℕ) (ts : List ℕ) → Distinct ts → sum_over (λ t. one_if (u == t)) ts ≤ 1
found_once u [] d = omega arith
found_once u (t ∷ ts) d =
    elim (true_or_false (u == t)) [
      | inl is ↦
          (let here : one_if (u == t) ≡ 1 = ap one_if is in
          let rest : sum_over (λ v. one_if (u == v)) ts ≡ 0 = none_found u ts (subst (λ v. is_in v ts ≡ false) (sym (eqb-true u t is)) d.0) in
          omega (arith, here, rest))
      | inr other ↦
          (let here : one_if (u == t) ≡ 0 = ap one_if other in
          let rest : sum_over (λ v. one_if (u == v)) ts ≤ 1 = found_once u ts d.1 in
          omega (arith, here, rest))
    ]

zeros : (ts : List ℕ) → sum_over (λ t. 0) ts ≡ 0
zeros [] = refl
zeros (t ∷ ts) = let rest = zeros ts in omega (arith, rest)

module _ {E : Type 0} where
  abbrev by : List (Touch E) → ℕ → ℕ
  by xs t = length (filter (λ x. x.transaction == t) xs)

  one_more : (x : Touch E) (xs : List (Touch E)) (t : ℕ) → by (x ∷ xs) t ≡ one_if (x.transaction == t) + by xs t
  one_more x xs t =
      elim (x.transaction == t) as (λ b. length (cond b (x ∷ filter (λ y. y.transaction == t) xs) (filter (λ y. y.transaction == t) xs)) ≡ one_if b + by xs t)
      [ true ↦ (let e : suc (by xs t) ≡ 1 + by xs t = omega arith in e) | false ↦ (let e : by xs t ≡ 0 + by xs t = omega arith in e) ]

  -- what distinct transactions have touched is no more than was touched
  pub touched_by_each : (xs : List (Touch E)) (ts : List ℕ) → Distinct ts → sum_over (λ t. by xs t) ts ≤ length xs
  touched_by_each [] ts d = let none : sum_over (λ t. by [] t) ts ≡ 0 = zeros ts in omega (arith, none)
  touched_by_each (x ∷ xs) ts d =
      let split : sum_over (λ t. by (x ∷ xs) t) ts ≡ sum_over (λ t. one_if (x.transaction == t)) ts + sum_over (λ t. by xs t) ts =
      ap (λ (f : ℕ → ℕ). sum_over f ts) (fun_ext (λ t. one_more x xs t)) ∙ sum_over_add (λ t. one_if (x.transaction == t)) (λ t. by xs t) ts in
      let one = found_once x.transaction ts d in
      let rest = touched_by_each xs ts d in
      omega (arith, split, one, rest)
