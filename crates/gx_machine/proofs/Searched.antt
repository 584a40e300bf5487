-- Lists in the order of the entries that their elements have, searched by halves.
use Rattle.std.proofs.Common.{◌≡◌, ℕ, zero, suc, ◌<◌, ◌≤◌, Bool, true, false, ◌||◌, List, [], ◌∷◌, map, take, drop, length, get_or, refl, ap, sym, ◌∙◌, subst, arith, insert}
use Rattle.std.specs.Prelude.{Result, Ok, Err}
use Rattle.std.specs.List.{AllWithin}
use Rattle.std.specs.List.Sorted.{IsBinarySearchResult, IsSearchInRange}
use Rattle.std.specs.Ordering.{is_eq, ordering_index, ordering_reverse}
use Rattle.std.specs.declared.cmp.Ordering.{Ordering}
use Rattle.std.specs.declared.cmp.Ordering.TheVariants.{Less, Equal, Greater}
use Rattle.std.proofs.lemmas.List.{map-id}
use Rattle.gx_machine.specs.declared.entry.Entry.{Entry}
use Rattle.gx_machine.specs.Keys.{Keys, IsLawful, entry_cmp, same_entry}
use Rattle.gx_machine.specs.Sets.{has, including, Before, InOrder}
use Rattle.gx_machine.specs.Orders.{Below, IsSearched}
use Rattle.gx_machine.proofs.SetLaws.{entry_total, entry_exact, including_by}
use Rattle.gx_machine.proofs.SessionMoves.{or_first, or_second, same_itself}

index_few : (o : Ordering) → ordering_index o ≤ 2
index_few Less = omega arith
index_few Equal = omega arith
index_few Greater = omega arith

module _ {B : Type 0} (k : Keys B) (l : IsLawful k) where
  through_match : (a b e : Entry B) (o : Ordering) → entry_cmp k b e ≡ o → entry_cmp k a b ≡ Less
      → ordering_index (entry_cmp k a e) ≤ ordering_index o
  through_match a b e Less g h =
      let i : ordering_index (entry_cmp k a e) ≡ 0 = ap ordering_index ((entry_total k l).trans a b e h g) in omega arith
  through_match a b e Equal g h =
      let i : ordering_index (entry_cmp k a e) ≡ 0 = ap ordering_index (ap (entry_cmp k a) (sym (entry_exact k l b e g)) ∙ h) in omega arith
  through_match a b e Greater g h = index_few (entry_cmp k a e)

  -- the other way round
  pub turned : (a b : Entry B) (o : Ordering) → entry_cmp k a b ≡ o → entry_cmp k b a ≡ ordering_reverse o
  turned a b o h = (entry_total k l).antisymm b a ∙ ap ordering_reverse h

  module _ {X : Type 0} (f : X → Entry B) where
    pub first_before : (e : Entry B) (xs : List X) (j : ℕ) (d : X) → Before k e (map f xs) → j < length xs
        → entry_cmp k e (f (get_or xs j d)) ≡ Less
    first_before e [] j d b h = absurd (omega arith)
    first_before e (x ∷ xs) zero d b h = b.0
    first_before e (x ∷ xs) (suc j) d b h = first_before e xs j d b.1 (omega arith)

    -- how the elements compare with an entry rises along the list
    pub rises : (e : Entry B) (xs : List X) → InOrder k (map f xs) → (i j : ℕ) (d : X) → i ≤ j → j < length xs
        → ordering_index (entry_cmp k (f (get_or xs i d)) e) ≤ ordering_index (entry_cmp k (f (get_or xs j d)) e)
    rises e [] o i j d le lt = absurd (omega arith)
    rises e (x ∷ xs) o zero zero d le lt = omega arith
    rises e (x ∷ xs) o zero (suc j) d le lt =
        through_match (f x) (f (get_or xs j d)) e (entry_cmp k (f (get_or xs j d)) e) refl (first_before (f x) xs j d o.0 (omega arith))
    rises e (x ∷ xs) o (suc i) zero d le lt = absurd (omega arith)
    rises e (x ∷ xs) o (suc i) (suc j) d le lt = rises e xs o.1 i j d (omega arith) (omega arith)

    -- the list has an element of this entry
    pub has_at : (e : Entry B) (xs : List X) (i : ℕ) (d : X) → i < length xs → entry_cmp k (f (get_or xs i d)) e ≡ Equal
        → has k e (map f xs) ≡ true
    has_at e [] i d lt h = absurd (omega arith)
    has_at e (x ∷ xs) zero d lt h =
        or_first (same_entry k e (f x)) (has k e (map f xs)) (ap (same_entry k e) (entry_exact k l (f x) e h) ∙ same_itself k l e)
    has_at e (x ∷ xs) (suc i) d lt h = or_second (same_entry k e (f x)) (has k e (map f xs)) (has_at e xs i d (omega arith) h)

    lacks_head : (e : Entry B) (x : X) (b : Bool) (o : Ordering) → entry_cmp k (f x) e ≡ o → is_eq (ordering_reverse o) ≡ false → b ≡ false
        → (same_entry k e (f x) || b) ≡ false
    lacks_head e x b o h differs rest = ap (λ (a : Bool). a || b) (ap is_eq (turned (f x) e o h) ∙ differs) ∙ rest

    -- between those before the entry and those after it there is none
    pub lacks_in_gap : (e : Entry B) (xs : List X) (i : ℕ) → AllWithin (λ x. entry_cmp k (f x) e ≡ Less) xs 0 i
        → AllWithin (λ x. entry_cmp k (f x) e ≡ Greater) xs i (length xs) → has k e (map f xs) ≡ false
    lacks_in_gap e [] i low high = refl
    lacks_in_gap e (x ∷ xs) zero low high =
        lacks_head e x (has k e (map f xs)) Greater (high 0 x (omega arith) (omega arith)) refl
        (lacks_in_gap e xs zero (λ j d le lt. absurd (omega arith)) (λ j d le lt. high (suc j) d (omega arith) (omega arith)))
    lacks_in_gap e (x ∷ xs) (suc i) low high =
        lacks_head e x (has k e (map f xs)) Less (low 0 x (omega arith) (omega arith)) refl
        (lacks_in_gap e xs i (λ j d le lt. low (suc j) d (omega arith) (omega arith)) (λ j d le lt. high (suc j) d (omega arith) (omega arith)))

  -- an entry goes into the gap
  pub including_in_gap : (e : Entry B) (xs : List (Entry B)) (i : ℕ) → i ≤ length xs → AllWithin (λ x. entry_cmp k x e ≡ Less) xs 0 i
      → AllWithin (λ x. entry_cmp k x e ≡ Greater) xs i (length xs) → including k e xs ≡ insert xs i e
  including_in_gap e [] zero le low high = refl
  including_in_gap e [] (suc i) le low high = absurd (omega arith)
  including_in_gap e (x ∷ xs) zero le low high =
      including_by k l Less e x xs (turned x e Greater (high 0 x (omega arith) (omega arith)))
  including_in_gap e (x ∷ xs) (suc i) le low high =
      including_by k l Greater e x xs (turned x e Less (low 0 x (omega arith) (omega arith)))
      ∙ ap (λ (ys : List (Entry B)). x ∷ ys)
      (including_in_gap e xs i (omega arith) (λ j d a b. low (suc j) d (omega arith) (omega arith)) (λ j d a b. high (suc j) d (omega arith) (omega arith)))

  below_in_gap : (e : Entry B) (xs : List (Entry B)) (i : ℕ) → i ≤ length xs → AllWithin (λ x. entry_cmp k x e ≡ Less) xs 0 i → Below k e (take i xs)
  below_in_gap e xs zero le low = tt
  below_in_gap e [] (suc i) le low = tt
  below_in_gap e (x ∷ xs) (suc i) le low =
      (low zero x (omega arith) (omega arith), below_in_gap e xs i (omega arith) (λ j d a b. low (suc j) d (omega arith) (omega arith)))

  before_in_gap : (e : Entry B) (xs : List (Entry B)) (i : ℕ) → AllWithin (λ x. entry_cmp k x e ≡ Greater) xs i (length xs) → Before k e (drop i xs)
  before_in_gap e [] zero high = tt
  before_in_gap e [] (suc i) high = tt
  before_in_gap e (x ∷ xs) zero high =
      (turned x e Greater (high zero x (omega arith) (omega arith)), before_in_gap e xs zero (λ j d a b. high (suc j) d (omega arith) (omega arith)))
  before_in_gap e (x ∷ xs) (suc i) high = before_in_gap e xs i (λ j d a b. high (suc j) d (omega arith) (omega arith))

  -- what a search for an entry finds in a set
  pub searched : (e : Entry B) (xs : List (Entry B)) (r : Result ℕ ℕ) → InOrder k xs → IsSearchInRange r (length xs)
      → IsBinarySearchResult (λ y. entry_cmp k y e) xs r → IsSearched k e xs r
  searched e xs (Ok i) o within found = record {
    within = within;
    has = ap (has k e) (sym (map-id xs)) ∙ has_at (λ (x : Entry B). x) e xs i e within (found e);
    at = λ d. entry_exact k l (get_or xs i d) e (found d);
  }
  searched e xs (Err i) o within found =
      let P : List (Entry B) → Type 0 = λ ys. InOrder k ys in
      let parted = found (rises (λ (x : Entry B). x) e xs (subst P (sym (map-id xs)) o)) in record {
        within = within;
        lacks = ap (has k e) (sym (map-id xs)) ∙ lacks_in_gap (λ (x : Entry B). x) e xs i parted.0 parted.1;
        goes = including_in_gap e xs i within parted.0 parted.1;
        below = below_in_gap e xs i within parted.0;
        before = before_in_gap e xs i parted.1;
      }
