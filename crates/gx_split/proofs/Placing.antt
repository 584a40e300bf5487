-- One placement: what is kept after it represents the groups after it.
use Rattle.std.proofs.Common.{◌≡◌, ℕ, suc, ◌+◌, ◌<◌, Bool, true, false, refl, ap, sym, ◌∙◌, subst, arith, add-one, List, length, [], ◌∷◌, ◌++◌, map, get_or, take, drop, Some, slice_get, slice_index, remove, All}
use Rattle.std.specs.Int.{abs_diff}
use Rattle.std.proofs.lemmas.List.{get_or-map, length-map, map-append, take-map, drop-map}
use Rattle.std.proofs.lemmas.List.Edits.{length-remove}
use Rattle.std.proofs.lemmas.List.Elements.{All-append, All-take, All-drop, All-map, All-weaker, All-head, All-tail}
use Rattle.std.proofs.lemmas.Simd.{map-map}
use Rattle.gx_split.specs.declared.waiting.Waiting.{Waiting}
use Rattle.gx_split.specs.declared.waiting.Covers.{Covers}
use Rattle.gx_split.specs.Split.{Measure, Groups, growth, growth_at, difference, first_greatest, goes_second, next_place, put, place_one, placed}
use Rattle.gx_split.specs.Waiting.{slot_of, gap_of, cover_of, covers_with, with_first, with_second, with_growth, sides_with, groups_of, HasGrowths, IsFresh, IsKept}

pub remove-map : {X Y : Type 0} (f : X → Y) (xs : List X) (i : ℕ) → remove (map f xs) i ≡ map f (remove xs i)
remove-map f xs i =
    ap (λ l. l ++ drop (suc i) (map f xs)) (take-map f i xs) ∙ ap (λ l. map f (take i xs) ++ l) (drop-map f (suc i) xs)
    ∙ sym (map-append f (take i xs) (drop (suc i) xs))

pub All-remove : {X : Type 0} (P : X → Type 0) (xs : List X) (i : ℕ) → All P xs → All P (remove xs i)
All-remove P xs i all = All-append P (take i xs) (drop (suc i) xs) (All-take P i xs all) (All-drop P (suc i) xs all)

growth_is : {K : Type 0} (m : Measure K) (keys : List K) (cover key : K) (slot : ℕ) → slice_get keys slot ≡ Some key → growth_at m keys cover slot ≡ growth m cover (Some key)
unfolding growth_at
growth_is m keys cover key slot is = ap (growth m cover) is

first_is : {K : Type 0} (m : Measure K) (keys : List K) (c : Covers K) (w : Waiting K) → IsFresh m keys c w → w.first ≡ growth_at m keys c.first w.slot
first_is m keys c w is = is.grown.first ∙ sym (growth_is m keys c.first w.key.now w.slot is.key)

second_is : {K : Type 0} (m : Measure K) (keys : List K) (c : Covers K) (w : Waiting K) → IsFresh m keys c w → w.second ≡ growth_at m keys c.second w.slot
second_is m keys c w is = is.grown.second ∙ sym (growth_is m keys c.second w.key.now w.slot is.key)

gaps_are : {K : Type 0} (m : Measure K) (keys : List K) (c : Covers K) (ws : List (Waiting K)) → All (IsFresh m keys c) ws
    → map gap_of ws ≡ map (difference m keys c.first c.second) (map slot_of ws)
gaps_are m keys c [] all = refl
gaps_are m keys c (w ∷ ws) all =
    let is = All-head (IsFresh m keys c) w ws all in
    let rest = gaps_are m keys c ws (All-tail (IsFresh m keys c) w ws all) in
    let gap : gap_of w ≡ difference m keys c.first c.second w.slot =
    is.grown.apart ∙ ap (λ a. abs_diff a w.second) (first_is m keys c w is)
    ∙ ap (abs_diff (growth_at m keys c.first w.slot)) (second_is m keys c w is)
    in
    ap (λ a. a ∷ map gap_of ws) gap ∙ ap (λ l. difference m keys c.first c.second w.slot ∷ l) rest

place_one-is : {K : Type 0} (m : Measure K) (keys : List K) (least : ℕ) (g : Groups K) (place slot : ℕ) (side : Bool) → place ≡ next_place m keys g
    → slot ≡ slice_index g.rest place → side ≡ goes_second m g least (growth_at m keys g.first slot) (growth_at m keys g.second slot)
    → place_one m keys least g ≡ put m keys g place slot side
unfolding place_one
place_one-is m keys least g place slot side is_place is_slot is_side =
    rw (← is_place, ← is_slot, ← is_side)

-- what the choice of the place, the key and the side comes to
chosen : {K : Type 0} (m : Measure K) (keys : List K) (c : Covers K) (ws : List (Waiting K)) (sides : List Bool) (least place : ℕ) (next : Waiting K) (side : Bool)
    → All (IsFresh m keys c) ws → IsFresh m keys c next → place < length ws → place ≡ first_greatest (map gap_of ws) → next ≡ get_or ws place next
    → side ≡ goes_second m (groups_of c ws []) least next.first next.second
    → place_one m keys least (groups_of c ws sides) ≡ put m keys (groups_of c ws sides) place next.slot side
chosen m keys c ws sides least place next side all is within is_place is_next is_side =
    place_one-is m keys least (groups_of c ws sides) place next.slot side
    (is_place ∙ ap first_greatest (gaps_are m keys c ws all))
    (ap slot_of is_next ∙ sym (get_or-map slot_of ws place next 0 within))
    (is_side ∙ ap (λ a. goes_second m (groups_of c ws []) least a next.second) (first_is m keys c next is)
    ∙ ap (goes_second m (groups_of c ws []) least (growth_at m keys c.first next.slot)) (second_is m keys c next is))

pub next_is_fresh : {K : Type 0} (m : Measure K) (keys : List K) (c : Covers K) (ws : List (Waiting K)) (place : ℕ) (next : Waiting K) → IsKept m keys c ws
    → place < length ws → next ≡ get_or ws place next → IsFresh m keys c next
next_is_fresh m keys c ws place next kept within is_next = subst (IsFresh m keys c) (sym is_next) (kept.fresh place next within)

pub grown_second : {K : Type 0} (m : Measure K) (c : Covers K) (w : Waiting K) (grows apart : ℕ) (side : Bool) → side ≡ true
    → grows ≡ growth m c.second (Some w.key.now) → apart ≡ abs_diff w.first grows
    → record w { second = grows; apart = apart } ≡ with_growth m side c w
grown_second m c w grows apart true is e far = ap (λ a. record w { second = grows; apart = a }) far ∙ ap (with_second w) e
grown_second m c w grows apart false is e far = cc

pub grown_first : {K : Type 0} (m : Measure K) (c : Covers K) (w : Waiting K) (grows apart : ℕ) (side : Bool) → side ≡ false
    → grows ≡ growth m c.first (Some w.key.now) → apart ≡ abs_diff grows w.second
    → record w { first = grows; apart = apart } ≡ with_growth m side c w
grown_first m c w grows apart true is e far = cc
grown_first m c w grows apart false is e far = ap (λ a. record w { first = grows; apart = a }) far ∙ ap (with_first w) e

-- beside a cover that covered the key that went to it, growths are unchanged
stays_second : {K : Type 0} (m : Measure K) (c : Covers K) (cover : K) (w : Waiting K) → cover ≡ c.second → HasGrowths m c w
    → with_second w (growth m cover (Some w.key.now)) ≡ w
stays_second m c cover w same is =
    ap (with_second w) (ap (λ k. growth m k (Some w.key.now)) same ∙ sym is.second) ∙ ap (λ a. record w { apart = a }) (sym is.apart)

stays_first : {K : Type 0} (m : Measure K) (c : Covers K) (cover : K) (w : Waiting K) → cover ≡ c.first → HasGrowths m c w
    → with_first w (growth m cover (Some w.key.now)) ≡ w
stays_first m c cover w same is =
    ap (with_first w) (ap (λ k. growth m k (Some w.key.now)) same ∙ sym is.first) ∙ ap (λ a. record w { apart = a }) (sym is.apart)

stays : {K : Type 0} (m : Measure K) (c : Covers K) (key : K) (side : Bool) (w : Waiting K) → m.join (cover_of side c) key ≡ cover_of side c
    → HasGrowths m c w → with_growth m side (covers_with m side c key) w ≡ w
stays m c key true w covered is = stays_second m c (m.join c.second key) w covered is
stays m c key false w covered is = stays_first m c (m.join c.first key) w covered is

pub all_stay : {K : Type 0} (m : Measure K) (c : Covers K) (key : K) (side : Bool) (ws : List (Waiting K)) → m.join (cover_of side c) key ≡ cover_of side c
    → All (HasGrowths m c) ws → ws ≡ map (with_growth m side (covers_with m side c key)) ws
all_stay m c key side [] covered all = refl
all_stay m c key side (w ∷ ws) covered all =
    let head = stays m c key side w covered (All-head (HasGrowths m c) w ws all) in
    let rest = all_stay m c key side ws covered (All-tail (HasGrowths m c) w ws all) in
    ap (λ v. v ∷ ws) (sym head) ∙ ap (λ l. with_growth m side (covers_with m side c key) w ∷ l) rest

-- the slots that wait stay what they are, and the one at the place goes
rest_is : {K : Type 0} (m : Measure K) (side : Bool) (c : Covers K) (ws : List (Waiting K)) (place : ℕ)
    → map slot_of (map (with_growth m side c) (remove ws place)) ≡ remove (map slot_of ws) place
rest_is m true c ws place = map-map slot_of (with_growth m true c) (remove ws place) ∙ sym (remove-map slot_of ws place)
rest_is m false c ws place = map-map slot_of (with_growth m false c) (remove ws place) ∙ sym (remove-map slot_of ws place)

put_is : {K : Type 0} (m : Measure K) (keys : List K) (c : Covers K) (ws ws' : List (Waiting K)) (sides : List Bool) (place slot : ℕ) (key : K) (side : Bool)
    → slice_get keys slot ≡ Some key → map slot_of ws' ≡ remove (map slot_of ws) place
    → groups_of (covers_with m side c key) ws' (sides_with side sides slot) ≡ put m keys (groups_of c ws sides) place slot side
put_is m keys c ws ws' sides place slot key true is rest = rw (is, rest)
put_is m keys c ws ws' sides place slot key false is rest = rw (is, rest)

-- what is kept after a placement represents the groups after it
pub placed_by : {K : Type 0} (m : Measure K) (keys : List K) (c c' : Covers K) (ws ws' : List (Waiting K)) (sides sides' : List Bool) (least place : ℕ) (next : Waiting K) (side : Bool)
    → IsKept m keys c ws → place < length ws → place ≡ first_greatest (map gap_of ws) → next ≡ get_or ws place next
    → side ≡ goes_second m (groups_of c ws []) least next.first next.second
    → c' ≡ covers_with m side c next.key.now → ws' ≡ map (with_growth m side c') (remove ws place) → sides' ≡ sides_with side sides next.slot
    → groups_of c' ws' sides' ≡ place_one m keys least (groups_of c ws sides)
placed_by m keys c c' ws ws' sides sides' least place next side kept within is_place is_next is_side covers waiting marks =
    let is = next_is_fresh m keys c ws place next kept within is_next in
    let rest = ap (map slot_of) waiting ∙ rest_is m side c' ws place in
    ap (λ k. groups_of k ws' sides') covers ∙ ap (λ s. groups_of (covers_with m side c next.key.now) ws' s) marks
    ∙ put_is m keys c ws ws' sides place next.slot next.key.now side is.key rest
    ∙ sym (chosen m keys c ws sides least place next side kept.fresh is within is_place is_next is_side)

-- a key is fresh beside the new cover of one group
fresh_by : {K : Type 0} (m : Measure K) (keys : List K) (c : Covers K) (key : K) (side : Bool) (w : Waiting K) → IsFresh m keys c w
    → IsFresh m keys (covers_with m side c key) (with_growth m side (covers_with m side c key) w)
fresh_by m keys c key true w is = record {
  key = is.key;
  within = is.within;
  grown = record { first = is.grown.first; second = refl; apart = refl };
}
fresh_by m keys c key false w is = record {
  key = is.key;
  within = is.within;
  grown = record { first = refl; second = is.grown.second; apart = refl };
}

one_more : {K : Type 0} (m : Measure K) (c : Covers K) (key : K) (side : Bool) → (covers_with m side c key).in_first + (covers_with m side c key).in_second ≡ c.in_first + c.in_second + 1
one_more m c key true = omega arith
one_more m c key false = omega arith

-- what is kept stays so
pub kept_by : {K : Type 0} (m : Measure K) (keys : List K) (c c' : Covers K) (ws ws' : List (Waiting K)) (place : ℕ) (key : K) (side : Bool)
    → IsKept m keys c ws → place < length ws → c' ≡ covers_with m side c key → ws' ≡ map (with_growth m side c') (remove ws place) → IsKept m keys c' ws'
kept_by m keys c c' ws ws' place key side kept h covers waiting =
    let after = covers_with m side c key in
    let grown = with_growth m side after in
    let left = remove ws place in
    let all : ws' ≡ map grown left = waiting ∙ ap (λ k. map (with_growth m side k) left) covers in
    let less = length-remove ws place h in
    let more = one_more m c key side in
    let before = kept.counted in
    let again = All-weaker (IsFresh m keys c) (λ w. IsFresh m keys after (grown w)) (fresh_by m keys c key side) left
    (All-remove (IsFresh m keys c) ws place kept.fresh)
    in
    subst (λ k. IsKept m keys k ws') (sym covers)
    (subst (IsKept m keys after) (sym all) (record {
      fresh = All-map (IsFresh m keys after) grown left again;
      counted = omega (arith, less, length-map left grown, more, before);
    }))

-- each key that waits has its growths
pub all_grown : {K : Type 0} (m : Measure K) (keys : List K) (c : Covers K) (ws : List (Waiting K)) → IsKept m keys c ws → All (HasGrowths m c) ws
all_grown m keys c ws kept = All-weaker (IsFresh m keys c) (HasGrowths m c) (λ w is. is.grown) ws kept.fresh

pub placed-none : {K : Type 0} (m : Measure K) (keys : List K) (least : ℕ) (g : Groups K) → placed m keys least g 0 ≡ g
unfolding placed
placed-none m keys least g = refl

pub placed-more : {K : Type 0} (m : Measure K) (keys : List K) (least : ℕ) (g : Groups K) (k : ℕ) → placed m keys least g (k + 1) ≡ place_one m keys least (placed m keys least g k)
unfolding placed
placed-more m keys least g k = rw (add-one k)
