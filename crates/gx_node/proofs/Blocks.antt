-- What passes of a node's entries, block by block.
use Rattle.std.proofs.Common.{◌≡◌, ℕ, ◌+◌, ◌-◌, ◌<◌, ◌≤◌, inl, inr, Bool, true, false, cond, ◌&&◌, List, [], ◌∷◌, ◌++◌, length, map, filter, take, get_or, min, refl, sym, ap, ◌∙◌, subst, arith, Some}
use Rattle.std.specs.Prelude.{slice_get}
use Rattle.std.specs.List.{All, filter_map, cons_option}
use Rattle.std.proofs.lemmas.Bool.{cases_lt}
use Rattle.std.proofs.lemmas.List.{take_all, take_more}
use Rattle.std.proofs.lemmas.List.Elements.{filter_map-append}
use Rattle.gx_node.specs.declared.passing.TheConstants.{BLOCK}
use Rattle.gx_node.specs.Hits.{hits_among, passing_of}
use Rattle.gx_node.proofs.Gathering.{block_gathers, hits_within}

-- ---- a block

-- each slot of a block's hits is one of the list's
pub block_within : {X : Type 0} (p : X → Bool) (xs : List X) (from : ℕ) (slots : List ℕ) (k : ℕ) → from ≤ length xs
    → slots ≡ hits_among (map p xs) from (min BLOCK (length xs - from)) → k < length slots → get_or slots k 0 < length xs
block_within p xs from slots k h is inside =
    let all = subst (All (λ s. s < from + min BLOCK (length xs - from))) (sym is) (hits_within (map p xs) from (min BLOCK (length xs - from))) k 0 inside in
    omega arith

-- a slot more of a block's hits
pub slot_more : {X : Type 0} (xs : List X) (slots : List ℕ) (k slot : ℕ) (x : X) → k < length slots → slot ≡ get_or slots k 0 → slice_get xs slot ≡ Some x
    → filter_map (slice_get xs) (take (k + 1) slots) ≡ filter_map (slice_get xs) (take k slots) ++ x ∷ []
slot_more xs slots k slot x inside is at =
    ap (filter_map (slice_get xs)) (take_more slots k 0 inside) ∙ filter_map-append (slice_get xs) (take k slots) (get_or slots k 0 ∷ [])
    ∙ ap (λ o. filter_map (slice_get xs) (take k slots) ++ cons_option o []) (ap (slice_get xs) (sym is) ∙ at)

-- ---- blocks

-- what passes up to a block's end
pub block_more : {X : Type 0} (p : X → Bool) (xs : List X) (from : ℕ) → from ≤ length xs → filter p (take (from + BLOCK) xs) ≡ filter p (take from xs) ++ passing_of p xs from
block_more p xs from h =
    let n = min BLOCK (length xs - from) in
    let gathered = block_gathers p xs from n (omega arith) in
    let same : take (from + BLOCK) xs ≡ take (from + n) xs =
    elim (cases_lt (from + BLOCK) (length xs)) [
      | inl more ↦ let whole : from + BLOCK ≡ from + n = omega arith in ap (λ k. take k xs) whole
      | inr last ↦ take_all (from + BLOCK) xs last ∙ sym (take_all (from + n) xs (omega arith))
    ]
    in
    ap (filter p) same ∙ gathered

-- a test and another on what passes it
both_by : {X : Type 0} (q : X → Bool) (x : X) (a b : Bool) (xs : List X) → q x ≡ a → cond (a && b) (x ∷ filter q xs) (filter q xs) ≡ filter q (cond b (x ∷ xs) xs)
both_by q x true true xs e = ap (λ t. cond t (x ∷ filter q xs) (filter q xs)) (sym e)
both_by q x true false xs e = refl
both_by q x false true xs e = ap (λ t. cond t (x ∷ filter q xs) (filter q xs)) (sym e)
both_by q x false false xs e = refl

pub filter_both : {X : Type 0} (q p : X → Bool) (xs : List X) → filter (λ x. q x && p x) xs ≡ filter q (filter p xs)
filter_both q p [] = refl
filter_both q p (x ∷ xs) =
    ap (λ l. cond (q x && p x) (x ∷ l) l) (filter_both q p xs) ∙ both_by q x (q x) (p x) (filter p xs) refl
