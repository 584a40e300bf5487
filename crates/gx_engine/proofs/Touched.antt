-- Touches by transactions in turn: those before a number, one transaction after another.
use Rattle.std.proofs.Common.{◌≡◌, ◌∙◌, ℕ, ◌+◌, ◌<◌, ◌≤◌, ◌⊎◌, inl, inr, Bool, true, false, cond, List, [], ◌∷◌, ◌++◌, refl, ap, sym, arith}
use Rattle.std.specs.Prelude.{◌==◌, nat_lt, filter}
use Rattle.std.specs.List.{AllByRecursion}
use Rattle.std.specs.declared.cmp.Ordering.TheVariants.{Less, Greater}
use Rattle.std.specs.Ordering.{nat_cmp, ordering_then}
use Rattle.std.specs.Cmp.{nat_cmp_is}
use Rattle.std.proofs.lemmas.Bool.{cases_lt, cases_order, eq-eqb, le-ltb, lt-ltb, ne_eqb}
use Rattle.gx_recovery.specs.Known.{Known, IsLawful}
use Rattle.gx_recovery.specs.Records.{Touch}
use Rattle.gx_recovery.specs.Analysis.{lists, touch_cmp}
use Rattle.gx_recovery.proofs.Tests.{itself, or_second}
use Rattle.gx_recovery.proofs.Touches.{Before, InOrder, same_itself}
use Rattle.gx_engine.specs.Noted.{AreFrom, AreInTurn, touched_before, touched_by}

-- a filter at a touch that it keeps, and at one that it doesn't
kept_first : {E : Type 0} (p : Touch E → Bool) (x : Touch E) (xs : List (Touch E)) → p x ≡ true → filter p (x ∷ xs) ≡ x ∷ filter p xs
kept_first {E} p x xs is = ap (λ (b : Bool). cond b (x ∷ filter p xs) (filter p xs)) is

dropped_first : {E : Type 0} (p : Touch E → Bool) (x : Touch E) (xs : List (Touch E)) → p x ≡ false → filter p (x ∷ xs) ≡ filter p xs
dropped_first {E} p x xs is = ap (λ (b : Bool). cond b (x ∷ filter p xs) (filter p xs)) is

-- in order of transaction and entry they are in turn
module _ {E P : Type 0} (k : Known E P) where
  not_later : (x y : Touch E) → touch_cmp k x y ≡ Less → x.transaction ≤ y.transaction
  not_later x y less =
      elim (cases_lt y.transaction x.transaction) [
        | inl later ↦
            let greater : Greater ≡ nat_cmp x.transaction y.transaction = nat_cmp_is x.transaction y.transaction Greater later in
            let both : Greater ≡ Less = ap (λ o. ordering_then o (k.cmp x.entry y.entry)) greater ∙ less in
            absurd cc
        | inr before ↦ before
      ]

  from_first : (n : ℕ) (x : Touch E) (xs : List (Touch E)) → n ≤ x.transaction → Before k x xs → AreFrom n xs
  from_first n x [] low b = tt
  from_first n x (y ∷ ys) low b = ((let next = not_later x y b.0 in omega (arith, low, next)), from_first n x ys low b.1)

  pub order_is_turn : (xs : List (Touch E)) → InOrder k xs → AreInTurn xs
  order_is_turn [] o = tt
  order_is_turn (x ∷ xs) o = (from_first x.transaction x xs (omega arith) o.0, order_is_turn xs o.1)

  -- what holds of the transaction of each that is listed holds of each one's
  pub of_listed : (l : IsLawful k) (Q : ℕ → Type 0) (xs : List (Touch E)) → ((t : ℕ) (e : E) → lists k t e xs ≡ true → Q t) → AllByRecursion (λ x. Q x.transaction) xs
  of_listed l Q [] each = tt
  of_listed l Q (x ∷ xs) each =
      (each x.transaction x.entry (here x xs), of_listed l Q xs (λ t e there. each t e (or_second _ (lists k t e xs) there)))
    where
      here : (x : Touch E) (xs : List (Touch E)) → lists k x.transaction x.entry (x ∷ xs) ≡ true
      here x xs =
          rw (itself x.transaction, same_itself k l x.entry) refl

-- none is before the number 0
pub none_before : {E : Type 0} (xs : List (Touch E)) → touched_before 0 xs ≡ []
none_before [] = refl
none_before (x ∷ xs) = dropped_first (λ y. nat_lt y.transaction 0) x xs (le-ltb x.transaction 0 (omega arith)) ∙ none_before xs

-- all are before one that each is before
pub all_before : {E : Type 0} (n : ℕ) (xs : List (Touch E)) → AllByRecursion (λ x. x.transaction < n) xs → touched_before n xs ≡ xs
all_before n [] low = refl
all_before {E} n (x ∷ xs) low = kept_first (λ y. nat_lt y.transaction n) x xs (lt-ltb x.transaction n low.0) ∙ ap (λ (ys : List (Touch E)). x ∷ ys) (all_before n xs low.1)

none_from : {E : Type 0} (n m : ℕ) (xs : List (Touch E)) → n ≤ m → AreFrom m xs → touched_before n xs ≡ []
none_from n m [] low from = refl
none_from n m (x ∷ xs) low from =
    dropped_first (λ y. nat_lt y.transaction n) x xs (le-ltb x.transaction n (let next = from.0 in omega (arith, low, next))) ∙ none_from n m xs low from.1

-- from a number on, those before the next one are its own
one_by : {E : Type 0} (t : ℕ) (x : Touch E) (xs : List (Touch E)) → t ≤ x.transaction → touched_before (t + 1) xs ≡ touched_by t xs → touched_before (t + 1) (x ∷ xs) ≡ touched_by t (x ∷ xs)
one_by {E} t x xs from rest =
    elim (cases_order t x.transaction) [
      | inl same ↦
          kept_first (λ y. nat_lt y.transaction (t + 1)) x xs (lt-ltb x.transaction (t + 1) (omega (arith, same))) ∙ ap (λ (ys : List (Touch E)). x ∷ ys) rest
          ∙ sym (kept_first (λ y. y.transaction == t) x xs (eq-eqb x.transaction t (sym same)))
      | inr (inl later) ↦
          dropped_first (λ y. nat_lt y.transaction (t + 1)) x xs (le-ltb x.transaction (t + 1) (omega (arith, later))) ∙ rest
          ∙ sym (dropped_first (λ y. y.transaction == t) x xs (ne_eqb x.transaction t (λ same. omega (arith, same, later))))
      | inr (inr before) ↦ absurd (omega (arith, before, from))
    ]

its_own : {E : Type 0} (t : ℕ) (xs : List (Touch E)) → AreFrom t xs → touched_before (t + 1) xs ≡ touched_by t xs
its_own t [] from = refl
its_own t (x ∷ xs) from = one_by t x xs from.0 (its_own t xs from.1)

from_next : {E : Type 0} (t n : ℕ) (xs : List (Touch E)) → t ≤ n → AreFrom n xs → AreFrom t xs
from_next t n [] low from = tt
from_next t n (x ∷ xs) low from = ((let next = from.0 in omega (arith, low, next)), from_next t n xs low from.1)

-- Between two numbers that no transaction is between: those before the second, and its own, come after those before the
-- first.
pub one_more : {E : Type 0} (n t : ℕ) (xs : List (Touch E)) → n ≤ t → AreInTurn xs → AllByRecursion (λ x. (x.transaction < n) ⊎ (t ≤ x.transaction)) xs
    → touched_before (t + 1) xs ≡ touched_before n xs ++ touched_by t xs
one_more n t [] low turn away = refl
one_more {E} n t (x ∷ xs) low turn away =
    elim away.0 [
      | inl before ↦
          kept_first (λ y. nat_lt y.transaction (t + 1)) x xs (lt-ltb x.transaction (t + 1) (omega (arith, before, low)))
          ∙ ap (λ (ys : List (Touch E)). x ∷ ys) (one_more n t xs low turn.1 away.1)
          ∙ ap (λ (ys : List (Touch E)). x ∷ (touched_before n xs ++ ys)) (sym (dropped_first (λ y. y.transaction == t) x xs (ne_eqb x.transaction t (λ same. omega (arith, same, before, low)))))
          ∙ ap (λ (ys : List (Touch E)). ys ++ touched_by t (x ∷ xs)) (sym (kept_first (λ y. nat_lt y.transaction n) x xs (lt-ltb x.transaction n before)))
      | inr from ↦
          let all : AreFrom t (x ∷ xs) = (from, from_next t x.transaction xs from turn.0) in
          its_own t (x ∷ xs) all ∙ ap (λ (ys : List (Touch E)). ys ++ touched_by t (x ∷ xs)) (sym (none_from n t (x ∷ xs) low all))
    ]
