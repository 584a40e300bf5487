-- Sets as sorted lists.
use Rattle.std.proofs.Common.{◌≡◌, ◌+◌, ◌≤◌, List, [], ◌∷◌, length, ap, arith}
use Rattle.std.specs.declared.cmp.Ordering.{Ordering}
use Rattle.std.specs.declared.cmp.Ordering.TheVariants.{Less, Equal, Greater}
use Rattle.std.specs.Ordering.{match_ordering}
use Rattle.gx_machine.specs.declared.entry.Entry.{Entry}
use Rattle.gx_machine.specs.Keys.{Keys, entry_cmp}
use Rattle.gx_machine.specs.Sets.{including}

-- the first element stays if it is less
pub including_greater : {B : Type 0} (k : Keys B) (e x : Entry B) (xs : List (Entry B)) → entry_cmp k e x ≡ Greater → including k e (x ∷ xs) ≡ x ∷ including k e xs
including_greater k e x xs h = ap (λ o. match_ordering o (e ∷ x ∷ xs) (x ∷ xs) (x ∷ including k e xs)) h

pub including_less : {B : Type 0} (k : Keys B) (e x : Entry B) (xs : List (Entry B)) → entry_cmp k e x ≡ Less → including k e (x ∷ xs) ≡ e ∷ x ∷ xs
including_less k e x xs h = ap (λ o. match_ordering o (e ∷ x ∷ xs) (x ∷ xs) (x ∷ including k e xs)) h

pub including_equal : {B : Type 0} (k : Keys B) (e x : Entry B) (xs : List (Entry B)) → entry_cmp k e x ≡ Equal → including k e (x ∷ xs) ≡ x ∷ xs
including_equal k e x xs h = ap (λ o. match_ordering o (e ∷ x ∷ xs) (x ∷ xs) (x ∷ including k e xs)) h

module _ {B : Type 0} (k : Keys B) where
  length_match : (e x : Entry B) (xs : List (Entry B)) (o : Ordering) → length (including k e xs) ≤ length xs + 1
      → length (match_ordering o (e ∷ x ∷ xs) (x ∷ xs) (x ∷ including k e xs)) ≤ length (x ∷ xs) + 1
  length_match e x xs Less h = omega arith
  length_match e x xs Equal h = omega arith
  length_match e x xs Greater h = omega arith

  pub length-including : (e : Entry B) (xs : List (Entry B)) → length (including k e xs) ≤ length xs + 1
  length-including e [] = omega arith
  length-including e (x ∷ xs) = length_match e x xs (entry_cmp k e x) (length-including e xs)
