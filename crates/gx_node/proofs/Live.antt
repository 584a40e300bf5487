-- A scan that passes over what isn't wanted.
use Rattle.std.proofs.Common.{◌≡◌, ℕ, ◌+◌, ◌<◌, ◌≤◌, List, length, map, sym, ap, ◌∙◌, inl, inr, arith, Bool, true, false, ◌&&◌, Some, None}
use Rattle.std.specs.Prelude.{slice_get, slice_index_or}
use Rattle.std.proofs.lemmas.Bool.{cases_eq, cases_lt, and_left, and_from}
use Rattle.std.proofs.lemmas.List.{length-map}
use Rattle.gx_node.specs.Hits.{IsNextHit}
use Rattle.gx_node.proofs.Slots.{made_at, both_fail}

-- none of the slots so far is wanted
pub record IsPast {X : Type 0} (q p : X → Bool) (xs : List X) (from slot : ℕ) : Type 0 where
  pub begun : from ≤ slot
  pub within : slot ≤ length xs
  pub none : (k : ℕ) → from ≤ k → k < slot → slice_index_or (map (λ x. q x && p x) xs) k false ≡ false

none_between : {X : Type 0} (q p : X → Bool) (xs : List X) (from slot hit : ℕ) → IsPast q p xs from slot
    → ((k : ℕ) → slot ≤ k → k < hit → slice_index_or (map p xs) k false ≡ false)
    → (k : ℕ) → from ≤ k → k < hit → slice_index_or (map (λ x. q x && p x) xs) k false ≡ false
none_between q p xs from slot hit past misses k a b =
    elim (cases_lt k slot) [ inl h ↦ past.none k a h | inr h ↦ both_fail p q xs k (misses k h b) ]

pub past_begins : {X : Type 0} (q p : X → Bool) (xs : List X) (from : ℕ) → from ≤ length xs → IsPast q p xs from from
past_begins q p xs from h = record { begun = omega arith; within = h; none = λ k a b. absurd (omega arith) }

pub past_goes_on : {X : Type 0} (q p : X → Bool) (xs : List X) (from slot hit : ℕ) (x : X) → IsPast q p xs from slot → IsNextHit (map p xs) slot (Some hit)
    → slice_get xs hit ≡ Some x → q x ≡ false → IsPast q p xs from (hit + 1)
past_goes_on q p xs from slot hit x past next at not_wanted =
    let begun = past.begun in
    let here = next.0 in
    record {
      begun = omega arith;
      within = omega (arith, next.1, length-map xs p);
      none = λ k a b. elim (cases_eq k hit) [
        | inl e ↦ ap (λ n. slice_index_or (map (λ x. q x && p x) xs) n false) e ∙ made_at (λ x. q x && p x) xs hit x false at ∙ and_left (q x) (p x) not_wanted
        | inr e ↦ none_between q p xs from slot hit past next.3 k a (omega arith)
      ];
    }

pub past_finds : {X : Type 0} (q p : X → Bool) (xs : List X) (from slot hit : ℕ) (x : X) → IsPast q p xs from slot → IsNextHit (map p xs) slot (Some hit)
    → slice_get xs hit ≡ Some x → q x ≡ true → IsNextHit (map (λ x. q x && p x) xs) from (Some hit)
past_finds q p xs from slot hit x past next at wanted =
    let begun = past.begun in
    let here = next.0 in
    let passes : p x ≡ true = sym (made_at p xs hit x false at) ∙ next.2 in (
      omega arith,
      omega (arith, next.1, length-map xs p, length-map xs (λ x. q x && p x)),
      made_at (λ x. q x && p x) xs hit x false at ∙ and_from (q x) (p x) wanted passes,
      none_between q p xs from slot hit past next.3,
    )

pub past_ends : {X : Type 0} (q p : X → Bool) (xs : List X) (from slot : ℕ) → IsPast q p xs from slot → IsNextHit (map p xs) slot None
    → IsNextHit (map (λ x. q x && p x) xs) from None
past_ends q p xs from slot past next =
    λ k a b. elim (cases_lt k slot) [
      | inl h ↦ past.none k a h
      | inr h ↦ both_fail p q xs k (next k h (omega (arith, length-map xs p, length-map xs (λ x. q x && p x))))
    ]
