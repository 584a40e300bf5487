-- A scan at work: what is left of the heap, and what isn't a hit.
use Rattle.std.proofs.Common.{◌≡◌, ℕ, ◌+◌, ◌-◌, ◌*◌, ◌<◌, ◌≤◌, List, [], length, map, take, drop, get_or, sym, ap, ◌∙◌, subst, inl, inr, arith, Bool, true, false, Some, None}
use Rattle.std.specs.Prelude.{slice_index_or}
use Rattle.std.proofs.lemmas.Bool.{cases_eq}
use Rattle.std.proofs.lemmas.List.{get_or-map, length-map}
use Rattle.gx_page.specs.Format.{heap}
use Rattle.gx_page.specs.Sizes.{AllOfLength}
use Rattle.gx_node.specs.Hits.{IsNextHit}
use Rattle.gx_node.specs.Reading.{Format, AreKeyed}
use Rattle.gx_node.proofs.Heaps.{heap_front, cut_item}

pub all_of_length : {B : Type 0} (f : Format B) (size : ℕ) (items : List (List ℕ)) → AreKeyed f size items → AllOfLength size items
all_of_length f size items keyed = λ k d h. (keyed k d h).long

-- what is left of the heap is that of the items from a slot on, and none before it is a hit
pub record IsScan (test : List ℕ → Bool) (items : List (List ℕ)) (from slot : ℕ) (rest : List ℕ) : Type 0 where
  pub left : rest ≡ heap (drop slot items)
  pub none : (k : ℕ) → from ≤ k → k < slot → slice_index_or (map test items) k false ≡ false

pub scan_begins : (test : List ℕ → Bool) (items : List (List ℕ)) (size from : ℕ) (rest : List ℕ) → AllOfLength size items → from ≤ length items
    → rest ≡ take (length (heap items) - from * size) (heap items) → IsScan test items from from rest
scan_begins test items size from rest all h is = record {
  left = is ∙ (heap_front items size from all h).1;
  none = λ k a b. absurd (omega arith);
}

pub scan_goes_on : (test : List ℕ → Bool) (items : List (List ℕ)) (size from slot : ℕ) (rest front : List ℕ) → AllOfLength size items → slot < length items
    → IsScan test items from slot rest → test (get_or items slot []) ≡ false → front ≡ take (length rest - size) rest → IsScan test items from (slot + 1) front
scan_goes_on test items size from slot rest front all h scan miss is = record {
  left = is ∙ (cut_item items size slot rest all h scan.left).before;
  none = λ k a b. elim (cases_eq k slot) [
    | inl e ↦ ap (λ n. slice_index_or (map test items) n false) e ∙ get_or-map test items slot [] false h ∙ miss
    | inr e ↦ scan.none k a (omega arith)
  ];
}

pub scan_finds : (test : List ℕ → Bool) (items : List (List ℕ)) (from slot : ℕ) (rest : List ℕ) → slot < length items → from ≤ slot
    → IsScan test items from slot rest → test (get_or items slot []) ≡ true → IsNextHit (map test items) from (Some slot)
scan_finds test items from slot rest h begun scan hit =
    (begun, subst (λ n. slot < n) (sym (length-map items test)) h, get_or-map test items slot [] false h ∙ hit, scan.none)

pub scan_ends : (test : List ℕ → Bool) (items : List (List ℕ)) (from slot : ℕ) (rest : List ℕ) → length items ≤ slot
    → IsScan test items from slot rest → IsNextHit (map test items) from None
scan_ends test items from slot rest h scan = λ k a b. scan.none k a (omega (arith, length-map items test))
