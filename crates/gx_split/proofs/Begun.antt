-- The keys that wait at the beginning.
use Rattle.std.proofs.Common.{◌≡◌, ℕ, zero, suc, ◌+◌, ◌-◌, ◌<◌, Bool, true, false, cond, refl, ap, sym, ◌∙◌, arith, add-one, List, length, [], ◌∷◌, ◌++◌, map, All, Some, slice_get, slice_set, replicate}
use Rattle.std.specs.Prelude.{nat_eq, nat_lt, ◌||◌}
use Rattle.std.proofs.lemmas.Bool.Decides.{nat_tests}
use Rattle.std.proofs.lemmas.List.{length-map, length-append, map-append}
use Rattle.std.proofs.lemmas.List.Elements.{All-nil, All-push}
use Rattle.gx_split.specs.declared.waiting.Waiting.{Waiting}
use Rattle.gx_split.specs.declared.waiting.Covers.{Covers}
use Rattle.gx_split.specs.Split.{Measure, Groups, Pair, others, seeds, placed, split_sides}
use Rattle.gx_split.specs.Waiting.{slot_of, groups_of, IsFresh, IsKept}

abbrev pub is_seed : Pair → ℕ → Bool
is_seed p k = nat_eq k p.lower || nat_eq k p.higher

pub others-none : (p : Pair) → others p 0 ≡ []
unfolding others
others-none p = refl

pub others-more : (p : Pair) (k : ℕ) → others p (k + 1) ≡ cond (is_seed p k) (others p k) (others p k ++ k ∷ [])
unfolding others
others-more p k = rw (add-one k)

pub others_skips : (p : Pair) (k : ℕ) → is_seed p k ≡ true → others p (k + 1) ≡ others p k
others_skips p k h = others-more p k ∙ ap (λ t. cond t (others p k) (others p k ++ k ∷ [])) h

pub others_takes : (p : Pair) (k : ℕ) → is_seed p k ≡ false → others p (k + 1) ≡ others p k ++ k ∷ []
others_takes p k h = others-more p k ∙ ap (λ t. cond t (others p k) (others p k ++ k ∷ [])) h

-- the loop that lists the keys beside the seeds
pub listed_skips : {K : Type 0} (p : Pair) (k : ℕ) (ws : List (Waiting K)) → is_seed p k ≡ true → map slot_of ws ≡ others p k → map slot_of ws ≡ others p (k + 1)
listed_skips p k ws h is = is ∙ sym (others_skips p k h)

pub listed_takes : {K : Type 0} (p : Pair) (k : ℕ) (ws ws' : List (Waiting K)) (w : Waiting K) → is_seed p k ≡ false → map slot_of ws ≡ others p k → w.slot ≡ k
    → ws' ≡ ws ++ w ∷ [] → map slot_of ws' ≡ others p (k + 1)
listed_takes p k ws ws' w h is at pushed =
    ap (map slot_of) pushed ∙ map-append slot_of ws (w ∷ []) ∙ ap (λ l. l ++ w.slot ∷ []) is ∙ ap (λ z. others p k ++ z ∷ []) at
    ∙ sym (others_takes p k h)

all_more : (P : ℕ → Type 0) (p : Pair) (k : ℕ) → All P (others p k) → (is_seed p k ≡ false → P k) → (t : Bool) → is_seed p k ≡ t
    → All P (cond t (others p k) (others p k ++ k ∷ []))
all_more P p k before last true is = before
all_more P p k before last false is = All-push P (others p k) k before (last is)

-- what holds of each slot below k that is no seed holds of each that is listed
pub All-others : (P : ℕ → Type 0) (p : Pair) (k : ℕ) → ((s : ℕ) → s < k → is_seed p s ≡ false → P s) → All P (others p k)
All-others P p zero each = rw others-none (All-nil P)
All-others P p (suc k) each =
    let before : All P (others p k) = All-others P p k (λ s h. each s (omega arith)) in
    rw (← add-one k, others-more p k)
    (all_more P p k before (each k (omega arith)) (is_seed p k) refl)

abbrev one_if : Bool → ℕ
one_if t = cond t 1 0

more_than : (a k : ℕ) → nat_lt a (suc k) ≡ (nat_lt a k || nat_eq k a)
more_than a k = grind (arith, nat_tests)

counted_more : (l h k n n' : ℕ) → l < h → n + one_if (nat_lt l k) + one_if (nat_lt h k) ≡ k → n' ≡ cond (nat_eq k l || nat_eq k h) n (n + 1)
    → n' + one_if (nat_lt l (k + 1)) + one_if (nat_lt h (k + 1)) ≡ k + 1
counted_more l h k n n' order before is = grind (arith, nat_tests)

longer : (p : Pair) (k : ℕ) (t : Bool) → is_seed p k ≡ t → length (others p (k + 1)) ≡ cond t (length (others p k)) (length (others p k) + 1)
longer p k true is = ap length (others_skips p k is)
longer p k false is = ap length (others_takes p k is) ∙ length-append (others p k) (k ∷ [])

length-others_by : (p : Pair) (k : ℕ) → p.lower < p.higher → length (others p k) + one_if (nat_lt p.lower k) + one_if (nat_lt p.higher k) ≡ k
length-others_by p zero order = rw others-none (grind (arith, nat_tests))
length-others_by p (suc k) order =
    rw (← add-one k)
    (counted_more p.lower p.higher k (length (others p k)) (length (others p (k + 1))) order (length-others_by p k order) (longer p k (is_seed p k) refl))

pub length-others : (p : Pair) (n : ℕ) → p.lower < p.higher → p.higher < n → length (others p n) + 2 ≡ n
length-others p n order within = let h = length-others_by p n order in grind (arith, nat_tests)

-- what is kept at the beginning
pub kept_begun : {K : Type 0} (m : Measure K) (keys : List K) (p : Pair) (c : Covers K) (ws : List (Waiting K)) → p.lower < p.higher → p.higher < length keys
    → c.in_first ≡ 1 → c.in_second ≡ 1 → map slot_of ws ≡ others p (length keys) → All (IsFresh m keys c) ws → IsKept m keys c ws
kept_begun m keys p c ws order within one one' slots fresh =
    let count : length ws ≡ length (others p (length keys)) = sym (length-map ws slot_of) ∙ ap length slots in
    let all = length-others p (length keys) order within in
    record { fresh = fresh; counted = omega arith }

abbrev groups : {K : Type 0} → K → K → List ℕ → List Bool → Groups K
groups a b rest sides = record { first = a; second = b; in_first = 1; in_second = 1; rest = rest; sides = sides }

abbrev pub seeded : {K : Type 0} → K → K → Covers K
seeded a b = record { first = a; second = b; in_first = 1; in_second = 1 }

-- the sides after all placements are the split's
pub split_is : {K : Type 0} (m : Measure K) (keys : List K) (least : ℕ) (p : Pair) (a b : K) (ws ws' : List (Waiting K)) (start sides : List Bool) (c : Covers K) → p ≡ seeds m keys
    → slice_get keys p.lower ≡ Some a → slice_get keys p.higher ≡ Some b → map slot_of ws ≡ others p (length keys)
    → start ≡ slice_set (replicate (length keys) false) p.higher true
    → groups_of c ws' sides ≡ placed m keys least (groups_of (seeded a b) ws start) (length keys - 2)
    → sides ≡ split_sides m keys least
unfolding split_sides
split_is m keys least p a b ws ws' start sides c is_seeds a_is b_is slots begins is =
    rw (← is_seeds, a_is, b_is)
    (ap (λ (g : Groups _). g.sides) is
    ∙ ap (λ (r : List ℕ). (placed m keys least (groups a b r start) (length keys - 2)).sides) slots
    ∙ ap (λ (s : List Bool). (placed m keys least (groups a b (others p (length keys)) s) (length keys - 2)).sides) begins)
