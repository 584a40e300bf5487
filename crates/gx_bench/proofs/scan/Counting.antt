-- What a scan has counted.
use Rattle.std.proofs.Common.{◌≡◌, ◌∙◌, ℕ, zero, suc, ◌+◌, ◌<◌, ◌≤◌, List, [], ◌∷◌, ◌++◌, length, filter, take, get_or, refl, sym, ap, arith, Bool, true, false, not, cond, Some}
use Rattle.std.specs.Prelude.{◌&&◌, slice_get}
use Rattle.std.specs.List.{count_by, filter_map, All}
use Rattle.std.proofs.Math.Numerals.{suc-eq-add-one}
use Rattle.std.proofs.lemmas.List.{length-append, take_all}
use Rattle.std.proofs.lemmas.List.Elements.{filter-append}
use Rattle.std.proofs.lemmas.List.Sums.{count_by_more_yes, count_by_more_no, length-filter}
use mir.Val.{bool_byte}
use Rattle.gx_node.specs.Trees.{Pair}
use Rattle.gx_node.specs.Hits.{passing_of}
use Rattle.gx_node.proofs.Blocks.{block_more, filter_both, slot_more}

none_taken : {X : Type 0} (xs : List X) → take 0 xs ≡ []
none_taken [] = refl
none_taken (x ∷ xs) = refl

-- ---- block by block

counted_both : {X : Type 0} (q : X → Bool) (xs ys : List X) → count_by q (xs ++ ys) ≡ count_by q xs + count_by q ys
counted_both q xs ys =
    sym (length-filter q (xs ++ ys)) ∙ ap length (filter-append q xs ys) ∙ length-append (filter q xs) (filter q ys)
    ∙ ap (λ n. n + length (filter q ys)) (length-filter q xs) ∙ ap (λ n. count_by q xs + n) (length-filter q ys)

passed_both : {X : Type 0} (q p : X → Bool) (xs : List X) → count_by (λ x. q x && p x) xs ≡ count_by q (filter p xs)
passed_both q p xs = sym (length-filter (λ x. q x && p x) xs) ∙ ap length (filter_both q p xs) ∙ length-filter q (filter p xs)

pub one_more_block : {X : Type 0} (q p : X → Bool) (xs : List X) (from : ℕ) → from ≤ length xs
    → count_by (λ x. q x && p x) (take (from + 64) xs) ≡ count_by (λ x. q x && p x) (take from xs) + count_by q (passing_of p xs from)
one_more_block q p xs from h =
    passed_both q p (take (from + 64) xs) ∙ ap (count_by q) (block_more p xs from h) ∙ counted_both q (filter p (take from xs)) (passing_of p xs from)
    ∙ ap (λ n. n + count_by q (passing_of p xs from)) (sym (passed_both q p (take from xs)))

-- a pair is counted if it isn't marked
pub one_counted : {B : Type 0} (n : ℕ) (x : Pair B) (marked : Bool) → n ≡ bool_byte (not marked) → marked ≡ x.marked
    → (n ≡ count_by (λ pair. not pair.marked) (x ∷ [])) × (n ≤ 1)
one_counted n x true is same =
    let one : count_by (λ pair. not pair.marked) (x ∷ []) ≡ 0 = ap (λ b. 0 + cond (not b) 1 0) (sym same) in
    (is ∙ sym one, omega arith)
one_counted n x false is same =
    let one : count_by (λ pair. not pair.marked) (x ∷ []) ≡ 1 = ap (λ b. 0 + cond (not b) 1 0) (sym same) in
    (is ∙ sym one, omega arith)

pub one_more_slot : {X : Type 0} (q : X → Bool) (xs : List X) (slots : List ℕ) (k slot n : ℕ) (x : X) → k < length slots → slot ≡ get_or slots k 0 → slice_get xs slot ≡ Some x
    → n ≡ count_by q (x ∷ []) → count_by q (filter_map (slice_get xs) (take (k + 1) slots)) ≡ count_by q (filter_map (slice_get xs) (take k slots)) + n
one_more_slot q xs slots k slot n x inside is at one =
    ap (count_by q) (slot_more xs slots k slot x inside is at) ∙ counted_both q (filter_map (slice_get xs) (take k slots)) (x ∷ [])
    ∙ ap (λ m. count_by q (filter_map (slice_get xs) (take k slots)) + m) (sym one)

-- ---- two tests that agree

same_step : {X : Type 0} (p q : X → Bool) (xs : List X) (d : X) (n : ℕ) → n < length xs → count_by p (take n xs) ≡ count_by q (take n xs)
    → p (get_or xs n d) ≡ q (get_or xs n d) → (b : Bool) → p (get_or xs n d) ≡ b → count_by p (take (n + 1) xs) ≡ count_by q (take (n + 1) xs)
same_step p q xs d n here before both true is_hit =
    count_by_more_yes p xs n d here is_hit ∙ ap (λ m. m + 1) before ∙ sym (count_by_more_yes q xs n d here (sym both ∙ is_hit))
same_step p q xs d n here before both false isnt = count_by_more_no p xs n d here isnt ∙ before ∙ sym (count_by_more_no q xs n d here (sym both ∙ isnt))

same_so_far : {X : Type 0} (p q : X → Bool) (xs : List X) (d : X) (n : ℕ) → n ≤ length xs → All (λ x. p x ≡ q x) xs
    → count_by p (take n xs) ≡ count_by q (take n xs)
same_so_far p q xs d zero within same = ap (count_by p) (none_taken xs) ∙ sym (ap (count_by q) (none_taken xs))
same_so_far p q xs d (suc n) within same =
    let here : n < length xs = omega arith in
    let more = same_step p q xs d n here (same_so_far p q xs d n (omega arith) same) (same n d here) (p (get_or xs n d)) refl in
    ap (λ m. count_by p (take m xs)) (suc-eq-add-one n) ∙ more ∙ sym (ap (λ m. count_by q (take m xs)) (suc-eq-add-one n))

pub same_count : {X : Type 0} (p q : X → Bool) (xs : List X) (d : X) → All (λ x. p x ≡ q x) xs → count_by p xs ≡ count_by q xs
same_count p q xs d same =
    let whole = take_all (length xs) xs (omega arith) in
    ap (count_by p) (sym whole) ∙ same_so_far p q xs d (length xs) (omega arith) same ∙ ap (count_by q) whole
