-- Laws of each element of a list, by slot.
use Rattle.std.proofs.Common.{◌≡◌, ℕ, zero, suc, ◌+◌, ◌<◌, ◌≤◌, inl, inr, List, [], ◌∷◌, length, take, Some, refl, ap, sym, subst, arith}
use Rattle.std.specs.Prelude.{slice_get}
use Rattle.std.proofs.lemmas.Bool.{cases_eq}
use Rattle.std.proofs.lemmas.Option.{slice_get_within}
use Rattle.gx_node.specs.Lists.{Each, SomeOf, sum_over}

module _ {X : Type 0} where
  pub each_slot : (P : X → Type 0) (xs : List X) → ((k : ℕ) (x : X) → slice_get xs k ≡ Some x → P x) → Each P xs
  each_slot P [] at = tt
  each_slot P (x ∷ xs) at = (at 0 x refl, each_slot P xs (λ k y is. at (suc k) y is))

  pub slot_of : (P : X → Type 0) (xs : List X) (k : ℕ) (x : X) → Each P xs → slice_get xs k ≡ Some x → P x
  slot_of P [] k x each at = absurd (cc)
  slot_of P (y ∷ ys) zero x each at = let same : y ≡ x = cc in subst P same each.0
  slot_of P (y ∷ ys) (suc k) x each at = slot_of P ys k x each.1 at

  pub some_slot : (P : X → Type 0) (xs : List X) (k : ℕ) (x : X) → P x → slice_get xs k ≡ Some x → SomeOf P xs
  some_slot P [] k x is at = absurd (cc)
  some_slot P (y ∷ ys) zero x is at = let same : x ≡ y = cc in inl (subst P same is)
  some_slot P (y ∷ ys) (suc k) x is at = inr (some_slot P ys k x is at)

  -- some element is against what holds of each
  pub some_against : (P Q : X → Type 0) (xs : List X) → ((x : X) → P x → Q x → ⊥) → SomeOf P xs → Each Q xs → ⊥
  some_against P Q [] against some each = some
  some_against P Q (x ∷ xs) against (inl here) each = against x here each.0
  some_against P Q (x ∷ xs) against (inr there) each = some_against P Q xs against there each.1

  -- all slots below the length were seen
  pub each_below : (P : X → Type 0) (xs : List X) (n : ℕ) → length xs ≤ n → ((k : ℕ) (x : X) → k < n → slice_get xs k ≡ Some x → P x) → Each P xs
  each_below P xs n all at = each_slot P xs (λ k x is. at k x (let low = slice_get_within xs k x is in omega (arith, low, all)) is)

  pub below_next : (P : ℕ → X → Type 0) (n : ℕ) → ((k : ℕ) (x : X) → k < n → P k x) → ((x : X) → P n x) → (k : ℕ) (x : X) → k < n + 1 → P k x
  below_next P n below here k x low = elim (cases_eq k n) [
    | inl same ↦ subst (λ j. P j x) (sym same) (here x)
    | inr ne ↦ below k x (omega arith)
  ]

  -- the sum over one element more
  pub sum_more : (f : X → ℕ) (xs : List X) (k : ℕ) (x : X) → slice_get xs k ≡ Some x → sum_over f (take (suc k) xs) ≡ sum_over f (take k xs) + f x
  sum_more f [] k x at = absurd (cc)
  sum_more f (y ∷ ys) zero x at = let same : y ≡ x = cc in let here = ap f same in omega (arith, here)
  sum_more f (y ∷ ys) (suc k) x at = let rest = sum_more f ys k x at in omega (arith, rest)
