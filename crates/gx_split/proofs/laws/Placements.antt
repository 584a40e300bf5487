-- Each placement is one as defined, and the split is placements.
use Rattle.std.proofs.Common.{◌≡◌, ℕ, zero, suc, ◌+◌, ◌-◌, ◌*◌, ◌<◌, ◌≤◌, Bool, true, false, cond, refl, ap, arith, add-one, List, length, [], ◌∷◌, map, get_or, remove, All, Some, slice_index}
use Rattle.std.specs.Prelude.{nat_le, nat_lt, slice_get}
use Rattle.std.proofs.lemmas.Bool.Decides.{nat_tests}
use Rattle.std.proofs.lemmas.List.{length-map, get_or-map}
use Rattle.gx_split.specs.Split.{Measure, Groups, Pair, begun, difference, growth_at, goes_second, next_place, joined_with, placed, place_one, put, second_less, seeds, split_sides}
use Rattle.gx_split.specs.Placement.{Offer, IsSide, Placing, GoesToFirst, GoesToSecond, IsPlacement, ArePlacements, none, more, IsQuadraticSplit}
use Rattle.gx_split.proofs.Placing.{placed-none, placed-more}
use Rattle.gx_split.proofs.Fairness.{IsFair, in_range, first_greatest_is, fair_placed}
use Rattle.gx_split.proofs.Wastes.{found, begins}

-- ---- the side

side_is : (l w : ℕ) (first second : Offer)
    → IsSide l w first second (cond (nat_le (first.keys + w) l) false (cond (nat_le (second.keys + w) l) true (second_less first.grows second.grows (second_less first.size second.size (nat_lt second.keys first.keys)))))
side_is l w first second = record {
  first_needs_all = λ h. grind (arith, nat_tests);
  second_needs_all = λ h k. grind (arith, nat_tests);
  first_grows_less = λ n h. let a = n.first_need_not in let b = n.second_need_not in grind (arith, nat_tests);
  second_grows_less = λ n h. let a = n.first_need_not in let b = n.second_need_not in grind (arith, nat_tests);
  first_is_smaller = λ n e h. let a = n.first_need_not in let b = n.second_need_not in grind (arith, nat_tests);
  second_is_smaller = λ n e h. let a = n.first_need_not in let b = n.second_need_not in grind (arith, nat_tests);
  first_has_fewer = λ n e f h. let a = n.first_need_not in let b = n.second_need_not in grind (arith, nat_tests);
  second_has_fewer = λ n e f h. let a = n.first_need_not in let b = n.second_need_not in grind (arith, nat_tests);
  all_the_same = λ n e f h. let a = n.first_need_not in let b = n.second_need_not in grind (arith, nat_tests);
}

-- ---- one placement

to_first : {K : Type 0} (m : Measure K) (keys : List K) (g : Groups K) (p : Placing K) → slice_get keys p.slot ≡ Some p.key → (t : Bool) → t ≡ p.side → p.side ≡ false
    → GoesToFirst m p g (put m keys g p.place p.slot t)
to_first m keys g p key true same side = absurd (cc)
to_first m keys g p key false same side = record { cover = ap (joined_with m g.first) key; keys = refl; other_cover = refl; other_keys = refl; sides = refl }

to_second : {K : Type 0} (m : Measure K) (keys : List K) (g : Groups K) (p : Placing K) → slice_get keys p.slot ≡ Some p.key → (t : Bool) → t ≡ p.side → p.side ≡ true
    → GoesToSecond m p g (put m keys g p.place p.slot t)
to_second m keys g p key true same side = record { cover = ap (joined_with m g.second) key; keys = refl; other_cover = refl; other_keys = refl; sides = refl }
to_second m keys g p key false same side = absurd (cc)

rest_is : {K : Type 0} (m : Measure K) (keys : List K) (g : Groups K) (place slot : ℕ) (t : Bool) → (put m keys g place slot t).rest ≡ remove g.rest place
rest_is m keys g place slot true = refl
rest_is m keys g place slot false = refl

pub placement : {K : Type 0} (m : Measure K) (keys : List K) (least : ℕ) (g : Groups K) → 0 < length g.rest → All (λ s. s < length keys) g.rest
    → (p : Placing K) × IsPlacement m keys least g (place_one m keys least g) p
unfolding place_one
placement m keys least g some within =
    let gap = difference m keys g.first g.second in let gaps = map gap g.rest in
    let count : length gaps ≡ length g.rest = length-map g.rest gap in
    let most = first_greatest_is gaps (omega arith) in
    let place = next_place m keys g in let slot = slice_index g.rest place in
    let place_in : place < length g.rest = let w = most.within in omega arith in
    let key = found keys slot (within place 0 place_in) in
    let side = goes_second m g least (growth_at m keys g.first slot) (growth_at m keys g.second slot) in
    let p : Placing _ = record { place = place; slot = slot; key = key.0; side = side } in
    let gap_at : (q : ℕ) → q < length g.rest → slice_index gaps q ≡ gap (slice_index g.rest q) = λ q h. get_or-map gap g.rest q 0 0 h in (
      p,
      record {
        waits = place_in;
        slot = refl;
        key = key.1;
        farthest = λ q h. let a = most.greatest q (omega arith) in let b = gap_at q h in let c = gap_at place place_in in omega arith;
        first_such = λ q h. let a = most.first q h in let b = gap_at q (omega arith) in let c = gap_at place place_in in omega arith;
        side = side_is least (length g.rest) (record { keys = g.in_first; grows = growth_at m keys g.first slot; size = m.size g.first }) (record { keys = g.in_second; grows = growth_at m keys g.second slot; size = m.size g.second });
        rest = rest_is m keys g place slot side;
        to_first = to_first m keys g p key.1 side refl;
        to_second = to_second m keys g p key.1 side refl;
      },
    )

-- ---- the whole split

waiting_within : {K : Type 0} (n least : ℕ) (p : Pair) (g : Groups K) → IsFair n least p g → All (λ s. s < n) g.rest
waiting_within n least p g fair = λ k d h. let r = in_range g.sides (get_or g.rest k d) (fair.waits k d h) in let l = fair.length_is in omega arith

placements : {K : Type 0} (m : Measure K) (keys : List K) (least : ℕ) (p : Pair) (g : Groups K) (k : ℕ) → IsFair (length keys) least p g → k ≤ length g.rest → 2 * least ≤ length keys
    → ArePlacements m keys least g (placed m keys least g k)
placements m keys least p g zero fair some enough = rw (placed-none m keys least g) none
placements m keys least p g (suc k) fair some enough =
    let before = fair_placed m keys (length keys) least p g k fair (omega arith) enough in
    let left = before.1 in
    let one = placement m keys least (placed m keys least g k) (omega arith) (waiting_within (length keys) least p (placed m keys least g k) before.0) in
    rw (← add-one k, placed-more m keys least g k) (more (placed m keys least g k) _ (placements m keys least p g k fair (omega arith) enough) one.0 one.1)

empty_list : (xs : List ℕ) → length xs ≡ 0 → xs ≡ []
empty_list [] h = refl
empty_list (x ∷ xs) h = absurd (omega arith)

pub quadratic_split : {K : Type 0} (m : Measure K) (keys : List K) (least : ℕ) → 1 ≤ least → 2 * least ≤ length keys
    → (first : K) × (second : K) × (end : Groups K) × IsQuadraticSplit m keys least (split_sides m keys least) first second end
quadratic_split m keys least one enough =
    let two = begins m keys least one enough in let b = two.2 in
    let g = begun keys (seeds m keys) two.0 two.1 in
    let end = placed m keys least g (length keys - 2) in
    let few : length keys - 2 ≤ length g.rest = let w = b.waiting in omega arith in (
      two.0,
      two.1,
      end,
      record {
        first_seed = b.lower;
        second_seed = b.higher;
        placements = placements m keys least (seeds m keys) g (length keys - 2) b.start few enough;
        none_waits = empty_list end.rest b.none_waits;
        sides_are = b.sides_are;
      },
    )
