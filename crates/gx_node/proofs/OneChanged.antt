-- A change of one element, seen as a change of each that passes a test.
use Rattle.std.proofs.Common.{◌≡◌, ℕ, zero, suc, ◌+◌, ◌≤◌, ◌==◌, List, [], ◌∷◌, map, set, cond, refl, sym, ap, ◌∙◌, arith, Bool, true, false, Some}
use Rattle.std.specs.Prelude.{if◌then◌else◌, slice_get}
use Rattle.std.proofs.lemmas.Bool.{eq-eqb}
use Rattle.gx_node.specs.Lists.{one_if, how_many}
use Rattle.gx_node.specs.Trees.{Pair, Child, Rules, times, is_entry}
use Rattle.gx_node.specs.Steps.{with_key, with_mark}
use Rattle.gx_node.specs.Edits.{marked_as, bounded_by}

module _ {X : Type 0} (test : X → Bool) (change : X → X) where
  abbrev where_passing : X → X
  where_passing x = if test x then change x else x

  -- an element does not pass if none does
  fails : (x : X) (n : ℕ) → one_if (test x) + n ≤ 0 → test x ≡ false
  fails x n h = low (test x) refl
    where
      low : (b : Bool) → test x ≡ b → b ≡ false
      low false e = refl
      low true e = let one : one_if (test x) ≡ 1 = ap one_if e in absurd (omega arith)

  unchanged : (xs : List X) → how_many test xs ≤ 0 → map where_passing xs ≡ xs
  unchanged [] h = refl
  unchanged (x ∷ xs) h =
      ap (λ b. cond b (change x) x ∷ map where_passing xs) (fails x (how_many test xs) h) ∙ ap (λ l. x ∷ l) (unchanged xs (omega arith))

  some_passes : (xs : List X) (slot : ℕ) (x : X) → slice_get xs slot ≡ Some x → test x ≡ true → 1 ≤ how_many test xs
  some_passes [] slot x at e = cc
  some_passes (y ∷ xs) zero x at e =
      let same : y ≡ x = cc in
      let one : one_if (test y) ≡ 1 = ap (λ z. one_if (test z)) same ∙ ap one_if e in
      omega arith
  some_passes (y ∷ xs) (suc slot) x at e = omega (arith, some_passes xs slot x at e)

  pub one_changed : (xs : List X) (slot : ℕ) (x : X) → how_many test xs ≤ 1 → slice_get xs slot ≡ Some x → test x ≡ true → set xs slot (change x) ≡ map where_passing xs
  one_changed [] slot x few at e = cc
  one_changed (y ∷ xs) zero x few at e =
      let same : y ≡ x = cc in
      let passes : test y ≡ true = ap test same ∙ e in
      let one : one_if (test y) ≡ 1 = ap one_if passes in
      ap (λ z. change z ∷ xs) (sym same) ∙ ap (λ l. change y ∷ l) (sym (unchanged xs (omega arith)))
      ∙ ap (λ b. cond b (change y) y ∷ map where_passing xs) (sym passes)
  one_changed (y ∷ xs) (suc slot) x few at e =
      let some = some_passes xs slot x at e in
      let not_here : test y ≡ false = fails y 0 (omega arith) in
      ap (λ l. y ∷ l) (one_changed xs slot x (omega arith) at e) ∙ ap (λ b. cond b (change y) y ∷ map where_passing xs) (sym not_here)

pub mark_once : {B : Type 0} (r : Rules B) (row : ℕ) (key : B) (mark : Bool) (pairs : List (Pair B)) (slot : ℕ) (pair : Pair B)
    → how_many (is_entry r row key) pairs ≤ 1 → slice_get pairs slot ≡ Some pair → is_entry r row key pair ≡ true
    → set pairs slot (marked_as mark pair) ≡ with_mark r row key mark pairs
mark_once r row key mark pairs slot pair few at is = one_changed (is_entry r row key) (marked_as mark) pairs slot pair few at is

times_by_child : {B : Type 0} (n : ℕ) (children : List (Child B)) → times n (map (λ c. c.page) children) ≡ how_many (λ c. c.page == n) children
times_by_child n [] = refl
times_by_child n (c ∷ children) = ap (λ m. one_if (c.page == n) + m) (times_by_child n children)

pub bound_once : {B : Type 0} (n : ℕ) (key : B) (children : List (Child B)) (slot : ℕ) (child : Child B)
    → times n (map (λ c. c.page) children) ≤ 1 → slice_get children slot ≡ Some child → child.page ≡ n
    → set children slot (bounded_by key child) ≡ with_key n key children
bound_once n key children slot child few at is =
    let once : how_many (λ (c : Child _). c.page == n) children ≤ 1 = omega (arith, times_by_child n children) in
    one_changed (λ c. c.page == n) (bounded_by key) children slot child once at (eq-eqb child.page n is)
