-- A list that is sorted, and keeps one of each, is the set of its entries.
use Rattle.std.proofs.Common.{◌≡◌, Bool, true, false, cond, ◌||◌, List, [], ◌∷◌, refl, ap, sym, ◌∙◌, subst}
use Rattle.std.specs.List.{AllByRecursion, dedup, dedup_from}
use Rattle.std.specs.List.Sorted.{IsPermutation, IsSorted, IsStrictlySortedBy}
use Rattle.std.specs.declared.cmp.Ordering.TheVariants.{Less}
use Rattle.std.proofs.lemmas.List.Kept.{IsStrictlySortedBy-dedup}
use Rattle.std.proofs.lemmas.List.Sorted.{list_any-IsPermutation}
use Rattle.gx_machine.specs.declared.entry.Entry.{Entry}
use Rattle.gx_machine.specs.Keys.{Keys, IsLawful, entry_cmp, same_entry}
use Rattle.gx_machine.specs.Sets.{has, including_all, Before, InOrder}
use Rattle.gx_machine.proofs.SetLaws.{entry_total, same_is}
use Rattle.gx_machine.proofs.SetsByTests.{one_set_of_a_test, set_that_is_gathered}

or_twice : (a b : Bool) → (a || b) ≡ (a || (a || b))
or_twice true b = refl
or_twice false b = refl

module _ {B : Type 0} (k : Keys B) (l : IsLawful k) where
  before_each : (x : Entry B) (xs : List (Entry B)) → AllByRecursion (λ y. entry_cmp k x y ≡ Less) xs → Before k x xs
  before_each x [] h = tt
  before_each x (y ∷ ys) h = (h.0, before_each x ys h.1)

  strictly_in_order : (xs : List (Entry B)) → IsStrictlySortedBy (entry_cmp k) xs → InOrder k xs
  unfolding IsStrictlySortedBy
  strictly_in_order [] h = tt
  strictly_in_order (x ∷ xs) h = (before_each x xs h.0, strictly_in_order xs h.1)

  module _ (same : Entry B → Entry B → Bool) (is_same : (a b : Entry B) → same a b ≡ same_entry k a b) where
    -- an entry that is dropped is the one before it
    has_from : (e x : Entry B) (xs : List (Entry B)) → has k e (dedup_from same x xs) ≡ has k e (x ∷ xs)
    has_from e x [] = refl
    has_from e x (y ∷ ys) =
        elim (same y x) as (λ t. same y x ≡ t → has k e (cond t (dedup_from same x ys) (x ∷ dedup_from same y ys)) ≡ has k e (x ∷ y ∷ ys)) [
          | true ↦ λ h. has_from e x ys ∙ or_twice (same_entry k e x) (has k e ys)
              ∙ ap (λ (z : Entry B). same_entry k e x || (same_entry k e z || has k e ys)) (sym (same_is k l y x (sym (is_same y x) ∙ h)))
          | false ↦ λ h. ap (λ (b : Bool). same_entry k e x || b) (has_from e y ys)
        ] refl

    has_dedup : (e : Entry B) (xs : List (Entry B)) → has k e (dedup same xs) ≡ has k e xs
    has_dedup e [] = refl
    has_dedup e (x ∷ xs) = has_from e x xs

    pub sorted_set : (xs ys zs : List (Entry B)) → IsPermutation xs ys → IsSorted (entry_cmp k) ys → zs ≡ dedup same ys → zs ≡ including_all k xs []
    sorted_set xs ys zs moved sorted is =
        one_set_of_a_test k l (λ e. has k e xs) zs (including_all k xs []) (record {
          in_order = subst (λ (s : List (Entry B)). InOrder k s) (sym is) (strictly_in_order (dedup same ys) (IsStrictlySortedBy-dedup (entry_total k l) is_same ys sorted));
          members = λ e. ap (has k e) is ∙ has_dedup e ys ∙ sym (list_any-IsPermutation (same_entry k e) xs ys moved);
        }) (set_that_is_gathered k l xs)
