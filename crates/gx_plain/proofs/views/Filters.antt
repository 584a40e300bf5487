-- Filters in either order.
use Rattle.std.proofs.Common.{◌≡◌, Bool, true, false, cond, List, [], ◌∷◌, refl, ap, sym, ◌∙◌}
use Rattle.std.specs.List.{filter}

module _ {A : Type 0} (p q : A → Bool) where
  swap_one : (x : A) (xs : List A) (s t : Bool) → p x ≡ s → q x ≡ t → filter p (filter q xs) ≡ filter q (filter p xs)
      → filter p (cond t (x ∷ filter q xs) (filter q xs)) ≡ filter q (cond s (x ∷ filter p xs) (filter p xs))
  swap_one x xs true true a b h =
      ap (λ u. cond u (x ∷ filter p (filter q xs)) (filter p (filter q xs))) a ∙ ap (λ ys. x ∷ ys) h
      ∙ sym (ap (λ u. cond u (x ∷ filter q (filter p xs)) (filter q (filter p xs))) b)
  swap_one x xs true false a b h = h ∙ sym (ap (λ u. cond u (x ∷ filter q (filter p xs)) (filter q (filter p xs))) b)
  swap_one x xs false true a b h = ap (λ u. cond u (x ∷ filter p (filter q xs)) (filter p (filter q xs))) a ∙ h
  swap_one x xs false false a b h = h

  pub filters_swap : (xs : List A) → filter p (filter q xs) ≡ filter q (filter p xs)
  filters_swap [] = refl
  filters_swap (x ∷ xs) = swap_one x xs (p x) (q x) refl refl (filters_swap xs)
