-- What a list covers has no more entries than it.
use Rattle.std.proofs.Common.{◌≡◌, ◌+◌, ◌≤◌, Bool, true, false, not, cond, ◌||◌, inl, inr, List, [], ◌∷◌, length, ap, ◌∙◌, arith}
use Rattle.std.specs.List.{filter}
use Rattle.std.specs.Cmp.Derive.{both_true}
use Rattle.std.specs.Ordering.{is_eq}
use Rattle.gx_machine.specs.declared.entry.Entry.{Entry}
use Rattle.gx_machine.specs.Keys.{Keys, IsLawful, entry_cmp, same_entry}
use Rattle.gx_machine.specs.Sets.{has, excluding, Before, InOrder}
use Rattle.gx_machine.specs.Invariants.{Covered}
use Rattle.gx_machine.proofs.SetLaws.{same_is, has-filter}
use Rattle.gx_machine.proofs.SessionMoves.{or_either, or_first, or_second, same_itself}

module _ {B : Type 0} (k : Keys B) (l : IsLawful k) where
  no_longer : (p : Entry B → Bool) (xs : List (Entry B)) → length (filter p xs) ≤ length xs
  no_longer p [] = omega arith
  no_longer p (x ∷ xs) =
      let rest = no_longer p xs in
      elim (p x) as (λ t. length (cond t (x ∷ filter p xs) (filter p xs)) ≤ length (x ∷ xs)) [ true ↦ omega arith | false ↦ omega arith ]

  without_match : (e y : Entry B) (ys : List (Entry B)) (s : Bool) → (s || has k e ys) ≡ true
      → (has k e ys ≡ true → length (excluding k e ys) + 1 ≤ length ys)
      → length (cond (not s) (y ∷ excluding k e ys) (excluding k e ys)) + 1 ≤ length (y ∷ ys)
  without_match e y ys true there rest = omega (arith, no_longer (λ x. not (same_entry k e x)) ys)
  without_match e y ys false there rest = omega (arith, rest there)

  length_without : (e : Entry B) (ys : List (Entry B)) → has k e ys ≡ true → length (excluding k e ys) + 1 ≤ length ys
  length_without e [] h = cc
  length_without e (y ∷ ys) h = without_match e y ys (same_entry k e y) h (length_without e ys)

  before_differs : (x e : Entry B) (xs : List (Entry B)) → Before k x xs → has k e xs ≡ true → same_entry k x e ≡ false
  before_differs x e [] before h = cc
  before_differs x e (y ∷ ys) before h =
      elim (or_either (same_entry k e y) (has k e ys) h) [
        | inl same ↦ ap is_eq (ap (entry_cmp k x) (same_is k l e y same) ∙ before.0)
        | inr among ↦ before_differs x e ys before.1 among
      ]

  pub length-covered : (xs ys : List (Entry B)) → InOrder k xs → Covered k xs ys → length xs ≤ length ys
  length-covered [] ys in_order covered = omega arith
  length-covered (x ∷ xs) ys in_order covered =
      let rest : Covered k xs (excluding k x ys) = λ e h.
      has-filter k l (λ z. not (same_entry k x z)) e ys
      ∙ both_true (ap not (before_differs x e xs in_order.0 h)) (covered e (or_second (same_entry k e x) (has k e xs) h))
      in
      omega (
        arith,
        length-covered xs (excluding k x ys) in_order.1 rest,
        length_without x ys (covered x (or_first (same_entry k x x) (has k x xs) (same_itself k l x))),
      )
