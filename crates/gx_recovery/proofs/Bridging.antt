-- What is done by the order of entries alone is done by all that is known of them.
use Rattle.std.proofs.Common.{◌≡◌, List, [], ◌∷◌, refl, ap}
use Rattle.std.specs.Ordering.{match_ordering}
use Rattle.gx_recovery.specs.Known.{Known}
use Rattle.gx_recovery.specs.Records.{Touch}
use Rattle.gx_recovery.specs.Analysis.{touch_cmp, touching}
use Rattle.gx_recovery.specs.Kept.{by_order}

module _ {E P : Type 0} (k : Known E P) where
  pub same_touching : (t : Touch E) (xs : List (Touch E)) → touching (by_order k.cmp) t xs ≡ touching k t xs
  same_touching t [] = refl
  same_touching t (x ∷ xs) =
      ap (λ (ys : List (Touch E)). match_ordering (touch_cmp k t x) (t ∷ x ∷ xs) (record x { leaf = t.leaf } ∷ xs) (x ∷ ys)) (same_touching t xs)
