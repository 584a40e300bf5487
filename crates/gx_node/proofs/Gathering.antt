-- How a block's slots are gathered.
use Rattle.std.proofs.Common.{◌≡◌, ℕ, zero, suc, ◌+◌, ◌-◌, ◌*◌, ◌<◌, ◌≤◌, List, [], ◌∷◌, ◌++◌, length, map, drop, take, set, get_or, cond, refl, sym, ap, ◌∙◌, arith, add-one, append_assoc, append-nil, Bool, true, false, Some}
use Rattle.std.specs.Prelude.{slice_get, slice_index_or}
use Rattle.std.specs.List.{All, filter, filter_map, cons_option}
use Rattle.std.proofs.lemmas.List.Elements.{All-nil, All-push, All-weaker, filter_map-append, filter_more}
use Rattle.std.proofs.lemmas.List.{get_or-map, length-append, take_more_set, take-set}
use mir.Val.{bool_byte}
use Rattle.gx_page.specs.Format.{heap}
use Rattle.gx_page.specs.Sizes.{AllOfLength}
use Rattle.gx_node.specs.Hits.{hits_among}
use Rattle.gx_node.proofs.Heaps.{heap_front}
use Rattle.gx_node.proofs.Slots.{made_at, some_at}

pub hits_among-none : (hits : List Bool) (from : ℕ) → hits_among hits from 0 ≡ []
unfolding hits_among
hits_among-none hits from = refl

pub hits_among-more : (hits : List Bool) (from n : ℕ)
    → hits_among hits from (n + 1) ≡ cond (slice_index_or hits (from + n) false) (hits_among hits from n ++ (from + n) ∷ []) (hits_among hits from n)
unfolding hits_among
hits_among-more hits from n = rw (add-one n)

few_by : (l : List ℕ) (slot n : ℕ) (t : Bool) → length l ≤ n → length (cond t (l ++ slot ∷ []) l) ≤ n + 1
few_by l slot n true h = omega (arith, length-append l (slot ∷ []))
few_by l slot n false h = omega arith

-- no more than were looked at
pub hits_few : (hits : List Bool) (from n : ℕ) → length (hits_among hits from n) ≤ n
hits_few hits from zero = rw hits_among-none (omega arith)
hits_few hits from (suc n) =
    rw (← add-one n, hits_among-more)
    (few_by (hits_among hits from n) (from + n) n (slice_index_or hits (from + n) false) (hits_few hits from n))

-- what is left of the heap is that of the items from the next slot on, and the hits so far are gathered
pub record IsGathering (test : List ℕ → Bool) (items : List (List ℕ)) (from n : ℕ) (rest : List ℕ) (slots : List ℕ) : Type 0 where
  pub left : rest ≡ heap (drop (from + n) items)
  pub hits : slots ≡ hits_among (map test items) from n

pub gathering_begins : (test : List ℕ → Bool) (items : List (List ℕ)) (size from : ℕ) (rest slots : List ℕ) → AllOfLength size items → from ≤ length items
    → rest ≡ take (length (heap items) - from * size) (heap items) → slots ≡ [] → IsGathering test items from 0 rest slots
gathering_begins test items size from rest slots all h is none =
    let same : from ≡ from + 0 = omega arith in
    record {
      left = is ∙ (heap_front items size from all h).1 ∙ ap (λ k. heap (drop k items)) same;
      hits = none ∙ sym (hits_among-none (map test items) from);
    }

pub gathering_goes_on : (test : List ℕ → Bool) (items : List (List ℕ)) (from n slot : ℕ) (rest front : List ℕ) (slots slots' : List ℕ) (passes : Bool) → from + n < length items
    → IsGathering test items from n rest slots → front ≡ heap (drop (from + n + 1) items) → slot ≡ from + n → passes ≡ test (get_or items (from + n) [])
    → slots' ≡ cond passes (slots ++ slot ∷ []) slots → IsGathering test items from (n + 1) front slots'
gathering_goes_on test items from n slot rest front slots slots' passes within was left at passed offered =
    let next : from + n + 1 ≡ from + (n + 1) = omega arith in
    let hit : slice_index_or (map test items) (from + n) false ≡ passes = get_or-map test items (from + n) [] false within ∙ sym passed in
    record {
      left = left ∙ ap (λ k. heap (drop k items)) next;
      hits = offered ∙ ap (λ s. cond passes (slots ++ s ∷ []) slots) at ∙ ap (λ l. cond passes (l ++ (from + n) ∷ []) l) was.hits
          ∙ ap (λ t. cond t (hits_among (map test items) from n ++ (from + n) ∷ []) (hits_among (map test items) from n)) (sym hit)
          ∙ sym (hits_among-more (map test items) from n);
    }

pub at_most_one : (passes : Bool) (n : ℕ) → n ≡ bool_byte passes → n ≤ 1
at_most_one true n e = omega arith
at_most_one false n e = omega arith

-- a slot more is stored, and kept if it passes
pub offered : (slots : List ℕ) (count slot n : ℕ) (passes : Bool) (before : List ℕ) → count < length slots → n ≡ bool_byte passes → take count slots ≡ before
    → take (count + n) (set slots count slot) ≡ cond passes (before ++ slot ∷ []) before
offered slots count slot n true before within one was =
    let next : count + n ≡ count + 1 = omega arith in
    ap (λ k. take k (set slots count slot)) next ∙ take_more_set slots count slot within ∙ ap (λ l. l ++ slot ∷ []) was
offered slots count slot n false before within none was =
    let same : count + n ≡ count = omega arith in
    ap (λ k. take k (set slots count slot)) same ∙ take-set slots count slot ∙ was

-- ---- the slots at a block's hits

within_by : (l : List ℕ) (from n : ℕ) (t : Bool) → All (λ s. s < from + n) l → All (λ s. s < from + (n + 1)) (cond t (l ++ (from + n) ∷ []) l)
within_by l from n true before =
    All-push (λ s. s < from + (n + 1)) l (from + n) (All-weaker (λ s. s < from + n) (λ s. s < from + (n + 1)) (λ s h. omega arith) l before) (omega arith)
within_by l from n false before = All-weaker (λ s. s < from + n) (λ s. s < from + (n + 1)) (λ s h. omega arith) l before

pub hits_within : (hits : List Bool) (from n : ℕ) → All (λ s. s < from + n) (hits_among hits from n)
hits_within hits from zero = rw hits_among-none (All-nil (λ s. s < from + 0))
hits_within hits from (suc n) =
    rw (← add-one n, hits_among-more)
    (within_by (hits_among hits from n) from n (slice_index_or hits (from + n) false) (hits_within hits from n))

at_slot : {X : Type 0} (xs : List X) (slot : ℕ) (d x : X) → slice_get xs slot ≡ Some x → get_or xs slot d ≡ x
at_slot [] slot d x e = cc
at_slot (y ∷ xs) zero d x e = cc
at_slot (y ∷ xs) (suc slot) d x e = at_slot xs slot d x e

module _ {X : Type 0} (p : X → Bool) (xs : List X) where
  taken_by : (slots : List ℕ) (more : List X) (slot : ℕ) (x : X) (t : Bool) → slice_get xs slot ≡ Some x
      → more ≡ filter_map (slice_get xs) slots → more ++ cond t (x ∷ []) [] ≡ filter_map (slice_get xs) (cond t (slots ++ slot ∷ []) slots)
  taken_by slots more slot x true at is =
      ap (λ l. l ++ x ∷ []) is ∙ sym (filter_map-append (slice_get xs) slots (slot ∷ []) ∙ ap (λ o. filter_map (slice_get xs) slots ++ cons_option o []) at)
  taken_by slots more slot x false at is = append-nil more ∙ is

  -- the elements at a block's hits are those of the block that pass
  pub block_gathers : (from n : ℕ) → from + n ≤ length xs
      → filter p (take (from + n) xs) ≡ filter p (take from xs) ++ filter_map (slice_get xs) (hits_among (map p xs) from n)
  block_gathers from zero h =
      let same : from + 0 ≡ from = omega arith in
      ap (λ k. filter p (take k xs)) same ∙ sym (ap (λ l. filter p (take from xs) ++ filter_map (slice_get xs) l) (hits_among-none (map p xs) from) ∙ append-nil (filter p (take from xs)))
  block_gathers from (suc n) h =
      let some = some_at xs (from + n) (omega arith) in
      let x = some.0 in
      let hits = map p xs in
      let next : from + suc n ≡ from + n + 1 = omega arith in
      let got : get_or xs (from + n) x ≡ x = at_slot xs (from + n) x x some.1 in
      let hit : p x ≡ slice_index_or hits (from + n) false = sym (made_at p xs (from + n) x false some.1) in
      let before = block_gathers from n (omega arith) in
      let all = hits_among hits from n in
      ap (λ k. filter p (take k xs)) next ∙ filter_more p xs (from + n) x (omega arith)
      ∙ ap (λ y. filter p (take (from + n) xs) ++ cond (p y) (y ∷ []) []) got
      ∙ ap (λ t. filter p (take (from + n) xs) ++ cond t (x ∷ []) []) hit
      ∙ ap (λ l. l ++ cond (slice_index_or hits (from + n) false) (x ∷ []) []) before
      ∙ append_assoc (filter p (take from xs)) (filter_map (slice_get xs) all) (cond (slice_index_or hits (from + n) false) (x ∷ []) [])
      ∙ ap (λ l. filter p (take from xs) ++ l)
      (taken_by all (filter_map (slice_get xs) all) (from + n) x (slice_index_or hits (from + n) false) some.1 refl)
      ∙ ap (λ l. filter p (take from xs) ++ filter_map (slice_get xs) l) (sym (hits_among-more hits from n) ∙ ap (hits_among hits from) (add-one n))
