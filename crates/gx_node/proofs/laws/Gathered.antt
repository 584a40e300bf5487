-- What a scan finds, hit by hit, is a filter.
use Rattle.std.proofs.Common.{◌≡◌, ℕ, zero, suc, ◌+◌, ◌-◌, ◌<◌, ◌≤◌, List, [], ◌∷◌, ◌++◌, length, map, take, get_or, cond, sym, ap, ◌∙◌, arith, append_assoc, append-nil, Bool, true, false, Some, None}
use Rattle.std.specs.Prelude.{slice_get, slice_index_or}
use Rattle.std.specs.List.{filter, filter_map, cons_option}
use Rattle.std.proofs.lemmas.List.{length-map, take_all}
use Rattle.std.proofs.lemmas.List.Elements.{filter_more}
use Rattle.gx_node.specs.Hits.{IsNextHit, AreHits, GathersByHits}
use Rattle.gx_node.proofs.Slots.{made_at, some_at}

module _ {X : Type 0} where
  got : (xs : List X) (slot : ℕ) (d x : X) → slice_get xs slot ≡ Some x → get_or xs slot d ≡ x
  got [] slot d x e = cc
  got (y ∷ xs) zero d x e = cc
  got (y ∷ xs) (suc slot) d x e = got xs slot d x e

  within : (xs : List X) (slot : ℕ) (x : X) → slice_get xs slot ≡ Some x → slot < length xs
  within [] slot x e = cc
  within (y ∷ xs) zero x e = omega arith
  within (y ∷ xs) (suc slot) x e = omega (arith, within xs slot x e)

  module _ (test : X → Bool) (xs : List X) where
    -- an element more
    more : (slot : ℕ) (x : X) → slice_get xs slot ≡ Some x → filter test (take (slot + 1) xs) ≡ filter test (take slot xs) ++ cond (test x) (x ∷ []) []
    more slot x e =
        filter_more test xs slot x (within xs slot x e) ∙ ap (λ y. filter test (take slot xs) ++ cond (test y) (y ∷ []) []) (got xs slot x x e)

    -- slots that are no hits add nothing
    none_more : (from n : ℕ) → from + n ≤ length xs → ((k : ℕ) → from ≤ k → k < from + n → slice_index_or (map test xs) k false ≡ false)
        → filter test (take (from + n) xs) ≡ filter test (take from xs)
    none_more from zero h none = let same : from + 0 ≡ from = omega arith in ap (λ m. filter test (take m xs)) same
    none_more from (suc n) h none =
        let some = some_at xs (from + n) (omega arith) in
        let x = some.0 in
        let miss : test x ≡ false = sym (made_at test xs (from + n) x false some.1) ∙ none (from + n) (omega arith) (omega arith) in
        let next : from + suc n ≡ from + n + 1 = omega arith in
        ap (λ m. filter test (take m xs)) next ∙ more (from + n) x some.1
        ∙ ap (λ b. filter test (take (from + n) xs) ++ cond b (x ∷ []) []) miss ∙ append-nil (filter test (take (from + n) xs))
        ∙ none_more from n (omega arith) (λ k a b. none k a (omega arith))

    hit_goes_on : (from slot : ℕ) (x : X) → IsNextHit (map test xs) from (Some slot) → slice_get xs slot ≡ Some x
        → filter test (take (slot + 1) xs) ≡ filter test (take from xs) ++ x ∷ []
    hit_goes_on from slot x next at =
        let here : slot < length xs = within xs slot x at in
        let begun = next.0 in
        let gap : from + (slot - from) ≡ slot = omega arith in
        let passes : test x ≡ true = sym (made_at test xs slot x false at) ∙ next.2 in
        more slot x at ∙ ap (λ b. filter test (take slot xs) ++ cond b (x ∷ []) []) passes
        ∙ ap (λ l. l ++ x ∷ []) (ap (λ m. filter test (take m xs)) (sym gap) ∙ none_more from (slot - from) (omega arith) (λ k a b. next.3 k a (omega arith)))

    hits_end : (from : ℕ) → from ≤ length xs → IsNextHit (map test xs) from None → filter test (take from xs) ≡ filter test xs
    hits_end from h next =
        let gap : from + (length xs - from) ≡ length xs = omega arith in
        sym (none_more from (length xs - from) (omega arith) (λ k a b. next k a (omega (arith, length-map xs test))))
        ∙ ap (λ m. filter test (take m xs)) gap ∙ ap (filter test) (take_all (length xs) xs (omega arith))

    hits_all : (from : ℕ) (slots : List ℕ) → from ≤ length xs → AreHits (map test xs) from slots
        → filter test (take from xs) ++ filter_map (slice_get xs) slots ≡ filter test xs
    hits_all from [] h hits = append-nil (filter test (take from xs)) ∙ hits_end from h hits
    hits_all from (slot ∷ slots) h hits =
        let here : slot < length xs = omega (arith, hits.0.1, length-map xs test) in
        let some = some_at xs slot here in
        let x = some.0 in
        let front = filter test (take from xs) in
        ap (λ o. front ++ cons_option o (filter_map (slice_get xs) slots)) some.1
        ∙ sym (append_assoc front (x ∷ []) (filter_map (slice_get xs) slots))
        ∙ ap (λ l. l ++ filter_map (slice_get xs) slots) (sym (hit_goes_on from slot x hits.0 some.1))
        ∙ hits_all (slot + 1) slots (omega arith) hits.1

    pub gathers_by_hits : GathersByHits test xs
    gathers_by_hits = record { goes_on = hit_goes_on; ends = hits_end; all = λ slots hits. hits_all 0 slots (omega arith) hits }
