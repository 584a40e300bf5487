-- Notes: where a write's note goes, and that the first mark and the last leaf are kept.
use Rattle.std.proofs.Common.{◌≡◌, ℕ, zero, suc, ◌<◌, ◌≤◌, false, List, [], ◌∷◌, length, get_or, refl, ap, sym, ◌∙◌, arith, insert}
use Rattle.std.specs.Prelude.{Result, Ok, Err, slice_set}
use Rattle.std.specs.Result.{MatchResult}
use Rattle.std.specs.List.{AllWithin}
use Rattle.std.specs.List.Sorted.{IsBinarySearchResult, IsSearchInRange}
use Rattle.std.specs.Ordering.{match_ordering}
use Rattle.std.specs.declared.cmp.Ordering.{Ordering}
use Rattle.std.specs.declared.cmp.Ordering.TheVariants.{Less, Equal, Greater}
use Rattle.gx_machine.specs.declared.entry.Entry.{Entry}
use Rattle.gx_machine.specs.Keys.{Keys, IsLawful, entry_cmp}
use Rattle.gx_machine.specs.Sets.{has, including, InOrder}
use Rattle.gx_machine.proofs.SetLaws.{entry_exact}
use Rattle.gx_txn.specs.declared.note.Note.{Note}
use Rattle.gx_txn.specs.Notes.{entries_of, noting}
use Rattle.gx_machine.proofs.Searched.{turned, first_before, rises, lacks_in_gap}

module _ {B : Type 0} (k : Keys B) where
  -- one step of noting, by how the entry compares with the first
  noting_by : (o : Ordering) (n x : Note B) (xs : List (Note B)) → entry_cmp k n.entry x.entry ≡ o
      → noting k n (x ∷ xs) ≡ match_ordering o (n ∷ x ∷ xs) (record x { leaf = n.leaf } ∷ xs) (x ∷ noting k n xs)
  noting_by o n x xs h = ap (λ r. match_ordering r (n ∷ x ∷ xs) (record x { leaf = n.leaf } ∷ xs) (x ∷ noting k n xs)) h

  entries_match : (n x : Note B) (xs : List (Note B)) (o : Ordering) → entries_of (noting k n xs) ≡ including k n.entry (entries_of xs)
      → entries_of (match_ordering o (n ∷ x ∷ xs) (record x { leaf = n.leaf } ∷ xs) (x ∷ noting k n xs))
      ≡ match_ordering o (n.entry ∷ x.entry ∷ entries_of xs) (x.entry ∷ entries_of xs) (x.entry ∷ including k n.entry (entries_of xs))
  entries_match n x xs Less rest = refl
  entries_match n x xs Equal rest = refl
  entries_match n x xs Greater rest = ap (λ (es : List (Entry B)). x.entry ∷ es) rest

  -- the entries that are noted are those from before and the one written
  pub entries_of-noting : (n : Note B) (notes : List (Note B)) → entries_of (noting k n notes) ≡ including k n.entry (entries_of notes)
  entries_of-noting n [] = refl
  entries_of-noting n (x ∷ xs) = entries_match n x xs (entry_cmp k n.entry x.entry) (entries_of-noting n xs)

module _ {B : Type 0} (k : Keys B) (l : IsLawful k) where
  pub noting_in_gap : (n : Note B) (xs : List (Note B)) (i : ℕ) → i ≤ length xs → AllWithin (λ x. entry_cmp k x.entry n.entry ≡ Less) xs 0 i
      → AllWithin (λ x. entry_cmp k x.entry n.entry ≡ Greater) xs i (length xs) → noting k n xs ≡ insert xs i n
  noting_in_gap n [] zero le low high = refl
  noting_in_gap n [] (suc i) le low high = absurd (omega arith)
  noting_in_gap n (x ∷ xs) zero le low high =
      noting_by k Less n x xs (turned k l x.entry n.entry Greater (high 0 x (omega arith) (omega arith)))
  noting_in_gap n (x ∷ xs) (suc i) le low high =
      noting_by k Greater n x xs (turned k l x.entry n.entry Less (low 0 x (omega arith) (omega arith)))
      ∙ ap (λ (ys : List (Note B)). x ∷ ys)
      (noting_in_gap n xs i (omega arith) (λ j d a b. low (suc j) d (omega arith) (omega arith)) (λ j d a b. high (suc j) d (omega arith) (omega arith)))

  pub noting_at : (n : Note B) (xs : List (Note B)) (i : ℕ) (d : Note B) → InOrder k (entries_of xs) → i < length xs
      → entry_cmp k (get_or xs i d).entry n.entry ≡ Equal → noting k n xs ≡ slice_set xs i (record (get_or xs i d) { leaf = n.leaf })
  noting_at n [] i d o lt h = absurd (omega arith)
  noting_at n (x ∷ xs) zero d o lt h = noting_by k Equal n x xs (turned k l x.entry n.entry Equal h)
  noting_at n (x ∷ xs) (suc i) d o lt h =
      let before : entry_cmp k x.entry n.entry ≡ Less =
      ap (entry_cmp k x.entry) (sym (entry_exact k l (get_or xs i d).entry n.entry h)) ∙ first_before k l (λ (y : Note B). y.entry) x.entry xs i d o.0 (omega arith) in
      noting_by k Greater n x xs (turned k l x.entry n.entry Less before)
      ∙ ap (λ (ys : List (Note B)). x ∷ ys) (noting_at n xs i d o.1 (omega arith) h)

  -- what a search for a note finds
  pub note_searched : (n : Note B) (xs : List (Note B)) (r : Result ℕ ℕ) → InOrder k (entries_of xs) → IsSearchInRange r (length xs)
      → IsBinarySearchResult (λ y. entry_cmp k y.entry n.entry) xs r
      → MatchResult r
      (λ i. (i < length xs) × ((d : Note B) → noting k n xs ≡ slice_set xs i (record (get_or xs i d) { leaf = n.leaf })))
      (λ i. (i ≤ length xs) × (noting k n xs ≡ insert xs i n) × (has k n.entry (entries_of xs) ≡ false))
  note_searched n xs (Ok i) o within found = (within, λ d. noting_at n xs i d o within (found d))
  note_searched n xs (Err i) o within found =
      let parted = found (rises k l (λ (y : Note B). y.entry) n.entry xs o) in (
        within,
        noting_in_gap n xs i within parted.0 parted.1,
        lacks_in_gap k l (λ (y : Note B). y.entry) n.entry xs i parted.0 parted.1,
      )
