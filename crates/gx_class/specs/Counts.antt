-- Counting, and the places of things in an order.
use Rattle.std.proofs.Common.{◌≡◌, zero-add, ℕ, zero, suc, ◌+◌, ◌<◌, ◌≤◌, Bool, true, false, not, cond, ◌⊎◌, inl, inr, List, [], ◌∷◌, map, length, refl, ap, sym, ◌∙◌, arith}
use Rattle.std.specs.Prelude.{nat_lt, count_by}
use Rattle.std.proofs.lemmas.List.Sums.{sum_by-cons}
use Rattle.std.proofs.lemmas.Bool.{ltb-true, ltb-false, lt-ltb, le-ltb}

abbrev pub one : Bool → ℕ
one b = cond b 1 0

-- how many pass a test
abbrev pub count : {X : Type 0} → (X → Bool) → List X → ℕ
count p [] = 0
count p (x ∷ xs) = one (p x) + count p xs

-- it is one of these
abbrev pub IsAmong : {X : Type 0} → X → List X → Type 0
IsAmong y [] = ⊥
IsAmong y (x ∷ xs) = (y ≡ x) ⊎ IsAmong y xs

one_le : (a b : Bool) → (a ≡ true → b ≡ true) → one a ≤ one b
one_le true b h = let e : one b ≡ 1 = ap one (h refl) in omega (arith, e)
one_le false b h = omega arith

one_or_other : (b : Bool) → one (not b) + one b ≡ 1
one_or_other true = refl
one_or_other false = refl

module _ {X : Type 0} where
  pub count_is : (p : X → Bool) (xs : List X) → count_by p xs ≡ count p xs
  count_is p [] = refl
  count_is p (x ∷ xs) = let first = sum_by-cons (λ s. cond (p s) 1 0) x xs in omega (arith, first, count_is p xs)

  pub count-map : {Y : Type 0} (p : X → Bool) (f : Y → X) (ys : List Y) → count p (map f ys) ≡ count (λ y. p (f y)) ys
  count-map p f [] = refl
  count-map p f (y ∷ ys) = ap (λ n. one (p (f y)) + n) (count-map p f ys)

  pub count_both : (p : X → Bool) (xs : List X) → count (λ x. not (p x)) xs + count p xs ≡ length xs
  count_both p [] = refl
  count_both p (x ∷ xs) = omega (arith, one_or_other (p x), count_both p xs)

  pub count_same : (p q : X → Bool) (xs : List X) → ((y : X) → IsAmong y xs → p y ≡ q y) → count p xs ≡ count q xs
  count_same p q [] h = refl
  count_same p q (x ∷ xs) h =
      ap (λ b. one b + count p xs) (h x (inl refl)) ∙ ap (λ n. one (q x) + n) (count_same p q xs (λ y a. h y (inr a)))

  pub count_le : (p q : X → Bool) (xs : List X) → ((y : X) → p y ≡ true → q y ≡ true) → count p xs ≤ count q xs
  count_le p q [] h = omega arith
  count_le p q (x ∷ xs) h = omega (arith, one_le (p x) (q x) (h x), count_le p q xs h)

  pub count_below : (p : X → Bool) (xs : List X) → count p xs ≤ length xs
  count_below p [] = omega arith
  count_below p (x ∷ xs) = omega (arith, one_or_other (p x), count_below p xs)

  -- one more passes, which is among them
  pub count_lt : (p q : X → Bool) (z : X) (xs : List X) → IsAmong z xs → p z ≡ false → q z ≡ true → ((y : X) → p y ≡ true → q y ≡ true)
      → count p xs + 1 ≤ count q xs
  count_lt p q z [] among fails passes h = absurd among
  count_lt p q z (x ∷ xs) (inl same) fails passes h =
      let without : one (p x) ≡ 0 = ap (λ y. one (p y)) (sym same) ∙ ap one fails in
      let with_it : one (q x) ≡ 1 = ap (λ y. one (q y)) (sym same) ∙ ap one passes in
      omega (arith, without, with_it, count_le p q xs h)
  count_lt p q z (x ∷ xs) (inr there) fails passes h = omega (arith, one_le (p x) (q x) (h x), count_lt p q z xs there fails passes h)

-- how a place moves as one more thing comes before it or not
low : (n r t : ℕ) (b : Bool) → nat_lt n r ≡ b → t ≤ r → nat_lt (one (not b) + n) t ≡ nat_lt n t
low n r t true e le = ap (λ m. nat_lt m t) (zero-add n)
low n r t false e le =
    let far : r ≤ n = ltb-false n r e in
    le-ltb (1 + n) t (omega arith) ∙ sym (le-ltb n t (omega arith))

past : (n s : ℕ) (b : Bool) → nat_lt n s ≡ b → nat_lt (1 + n) (suc s) ≡ b
past n s true e = let h : n < s = ltb-true n s e in lt-ltb (1 + n) (suc s) (omega arith)
past n s false e = let h : s ≤ n = ltb-false n s e in le-ltb (1 + n) (suc s) (omega arith)

high : (n r s : ℕ) (b : Bool) → nat_lt n r ≡ b → r ≤ s → nat_lt (one (not b) + n) (suc s) ≡ nat_lt n s
high n r s true e le =
    let near : n < r = ltb-true n r e in
    ap (λ m. nat_lt m (suc s)) (zero-add n) ∙ lt-ltb n (suc s) (omega arith) ∙ sym (lt-ltb n s (omega arith))
high n r s false e le = past n s (nat_lt n s) refl

settle : (b : Bool) → (b ≡ true → b ≡ false) → b ≡ false
settle true h = h refl
settle false h = refl

-- how many of them come before it
abbrev pub rank : {X : Type 0} → (X → X → Bool) → X → List X → ℕ
rank before y xs = count (λ z. before z y) xs

-- of each two one comes first
abbrev pub AreApart : {X : Type 0} → (X → X → Bool) → List X → Type 0
AreApart before [] = Unit {0}
AreApart {X} before (x ∷ xs) = ((y : X) → IsAmong y xs → before x y ≡ not (before y x)) × AreApart before xs

module _ {X : Type 0} (before : X → X → Bool) (asym : (a b : X) → before a b ≡ true → before b a ≡ false)
    (trans : (a b c : X) → before a b ≡ true → before b c ≡ true → before a c ≡ true) where
  itself : (a : X) → before a a ≡ false
  itself a = settle (before a a) (λ e. asym a a e)

  pub earlier_less : (x y : X) (xs : List X) → IsAmong y xs → before y x ≡ true → rank before y xs + 1 ≤ rank before x xs
  earlier_less x y xs among h = count_lt (λ z. before z y) (λ z. before z x) y xs among (itself y) h (λ z e. trans z y x e h)

  pub later_not_less : (x y : X) (xs : List X) → before x y ≡ true → rank before x xs ≤ rank before y xs
  later_not_less x y xs h = count_le (λ z. before z x) (λ z. before z y) xs (λ z e. trans z x y e h)

  by_rank : (x y : X) (xs : List X) (b : Bool) → before y x ≡ b → IsAmong y xs → before x y ≡ not b → before x y ≡ not (nat_lt (rank before y xs) (rank before x xs))
  by_rank x y xs true h among apart =
      let less = earlier_less x y xs among h in
      apart ∙ ap not (sym (lt-ltb (rank before y xs) (rank before x xs) (omega (arith, less))))
  by_rank x y xs false h among apart =
      apart ∙ ap not (sym (le-ltb (rank before y xs) (rank before x xs) (later_not_less x y xs apart)))

  pub before_by_rank : (x y : X) (xs : List X) → IsAmong y xs → before x y ≡ not (before y x) → before x y ≡ not (nat_lt (rank before y xs) (rank before x xs))
  before_by_rank x y xs among apart = by_rank x y xs (before y x) refl among apart

  module _ (x : X) (xs : List X) (apart : (y : X) → IsAmong y xs → before x y ≡ not (before y x))
      (rest : (t : ℕ) → t ≤ length xs → count (λ y. nat_lt (rank before y xs) t) xs ≡ t) where
    head : (t : ℕ) (b : Bool) → nat_lt (rank before x xs) t ≡ b → nat_lt (rank before x (x ∷ xs)) t ≡ b
    head t b h = ap (λ a. nat_lt (one a + rank before x xs) t) (itself x) ∙ ap (λ m. nat_lt m t) (zero-add (rank before x xs)) ∙ h

    below_it : (t : ℕ) → t ≤ rank before x xs → count (λ y. nat_lt (rank before y (x ∷ xs)) t) (x ∷ xs) ≡ t
    below_it t le =
        let first : one (nat_lt (rank before x (x ∷ xs)) t) ≡ 0 = ap one (head t false (le-ltb (rank before x xs) t le)) in
        let same : count (λ y. nat_lt (rank before y (x ∷ xs)) t) xs ≡ count (λ y. nat_lt (rank before y xs) t) xs =
        count_same (λ y. nat_lt (rank before y (x ∷ xs)) t) (λ y. nat_lt (rank before y xs) t) xs (λ y among.
        ap (λ a. nat_lt (one a + rank before y xs) t) (before_by_rank x y xs among (apart y among))
        ∙ low (rank before y xs) (rank before x xs) t (nat_lt (rank before y xs) (rank before x xs)) refl le) in
        let fits = count_below (λ z. before z x) xs in
        let others : count (λ y. nat_lt (rank before y xs) t) xs ≡ t = rest t (omega (arith, fits)) in
        omega (arith, first, same, others)

    past_it : (s : ℕ) → rank before x xs ≤ s → s ≤ length xs → count (λ y. nat_lt (rank before y (x ∷ xs)) (suc s)) (x ∷ xs) ≡ suc s
    past_it s le fits =
        let first : one (nat_lt (rank before x (x ∷ xs)) (suc s)) ≡ 1 = ap one (head (suc s) true (lt-ltb (rank before x xs) (suc s) (omega arith))) in
        let same : count (λ y. nat_lt (rank before y (x ∷ xs)) (suc s)) xs ≡ count (λ y. nat_lt (rank before y xs) s) xs =
        count_same (λ y. nat_lt (rank before y (x ∷ xs)) (suc s)) (λ y. nat_lt (rank before y xs) s) xs (λ y among.
        ap (λ a. nat_lt (one a + rank before y xs) (suc s)) (before_by_rank x y xs among (apart y among))
        ∙ high (rank before y xs) (rank before x xs) s (nat_lt (rank before y xs) (rank before x xs)) refl le) in
        let others : count (λ y. nat_lt (rank before y xs) s) xs ≡ s = rest s fits in
        omega (arith, first, same, others)

    by_place : (t : ℕ) (b : Bool) → nat_lt (rank before x xs) t ≡ b → t ≤ length xs + 1 → count (λ y. nat_lt (rank before y (x ∷ xs)) t) (x ∷ xs) ≡ t
    by_place t false h le = below_it t (ltb-false (rank before x xs) t h)
    by_place zero true h le = let no : rank before x xs < 0 = ltb-true (rank before x xs) 0 h in absurd (omega arith)
    by_place (suc s) true h le = let near : rank before x xs < suc s = ltb-true (rank before x xs) (suc s) h in past_it s (omega arith) (omega arith)

  -- as many have a place below t as t says
  pub placed_below : (xs : List X) → AreApart before xs → (t : ℕ) → t ≤ length xs → count (λ y. nat_lt (rank before y xs) t) xs ≡ t
  placed_below [] apart t le = omega arith
  placed_below (x ∷ xs) apart t le = by_place x xs apart.0 (placed_below xs apart.1) t (nat_lt (rank before x xs) t) refl (omega arith)
