-- The quadratic split: how one key is placed, and that a split is nothing but such placements.
use Rattle.std.specs.Prelude.{◌≡◌, ℕ, ◌+◌, ◌<◌, ◌≤◌, Bool, true, false, List, [], Some, length, remove, slice_get, slice_index, slice_set}
use Rattle.gx_split.specs.Split.{Measure, Groups, begun, difference, growth_at, seeds}

-- a group as the next key finds it: how many keys it has, how much its cover grows by the key, and its cover's size
pub record Offer : Type 0 where
  pub keys : ℕ
  pub grows : ℕ
  pub size : ℕ

-- neither group needs all that wait
pub record NeedNotAll (least waiting : ℕ) (first second : Offer) : Type 0 where
  pub first_need_not : least < first.keys + waiting
  pub second_need_not : least < second.keys + waiting

-- the group that a key goes to, true for the second: the one that needs all that wait, else the one that grows less, else
-- the smaller, else the one of fewer keys, else the first
pub record IsSide (least waiting : ℕ) (first second : Offer) (side : Bool) : Type 0 where
  pub first_needs_all : first.keys + waiting ≤ least → side ≡ false
  pub second_needs_all : least < first.keys + waiting → second.keys + waiting ≤ least → side ≡ true
  pub first_grows_less : NeedNotAll least waiting first second → first.grows < second.grows → side ≡ false
  pub second_grows_less : NeedNotAll least waiting first second → second.grows < first.grows → side ≡ true
  pub first_is_smaller : NeedNotAll least waiting first second → first.grows ≡ second.grows → first.size < second.size → side ≡ false
  pub second_is_smaller : NeedNotAll least waiting first second → first.grows ≡ second.grows → second.size < first.size → side ≡ true
  pub first_has_fewer : NeedNotAll least waiting first second → first.grows ≡ second.grows → first.size ≡ second.size → first.keys < second.keys → side ≡ false
  pub second_has_fewer : NeedNotAll least waiting first second → first.grows ≡ second.grows → first.size ≡ second.size → second.keys < first.keys → side ≡ true
  pub all_the_same : NeedNotAll least waiting first second → first.grows ≡ second.grows → first.size ≡ second.size → first.keys ≡ second.keys → side ≡ false

-- which key is placed: its place among those that wait, its slot, the key, and its side
pub record Placing (K : Type 0) : Type 0 where
  pub place : ℕ
  pub slot : ℕ
  pub key : K
  pub side : Bool

-- the group gets the key, and the other stays
pub record GoesToFirst {K : Type 0} (m : Measure K) (p : Placing K) (g h : Groups K) : Type 0 where
  pub cover : h.first ≡ m.join g.first p.key
  pub keys : h.in_first ≡ g.in_first + 1
  pub other_cover : h.second ≡ g.second
  pub other_keys : h.in_second ≡ g.in_second
  pub sides : h.sides ≡ g.sides

pub record GoesToSecond {K : Type 0} (m : Measure K) (p : Placing K) (g h : Groups K) : Type 0 where
  pub cover : h.second ≡ m.join g.second p.key
  pub keys : h.in_second ≡ g.in_second + 1
  pub other_cover : h.first ≡ g.first
  pub other_keys : h.in_first ≡ g.in_first
  pub sides : h.sides ≡ slice_set g.sides p.slot true

-- of the keys that wait, the first of those at which the growths are farthest apart goes to its side
pub record IsPlacement {K : Type 0} (m : Measure K) (keys : List K) (least : ℕ) (g h : Groups K) (p : Placing K) : Type 0 where
  pub waits : p.place < length g.rest
  pub slot : slice_index g.rest p.place ≡ p.slot
  pub key : slice_get keys p.slot ≡ Some p.key
  pub farthest : (q : ℕ) → q < length g.rest → difference m keys g.first g.second (slice_index g.rest q) ≤ difference m keys g.first g.second p.slot
  pub first_such : (q : ℕ) → q < p.place → difference m keys g.first g.second (slice_index g.rest q) < difference m keys g.first g.second p.slot
  pub side : IsSide least (length g.rest) (record { keys = g.in_first; grows = growth_at m keys g.first p.slot; size = m.size g.first })
      (record { keys = g.in_second; grows = growth_at m keys g.second p.slot; size = m.size g.second }) p.side
  pub rest : h.rest ≡ remove g.rest p.place
  pub to_first : p.side ≡ false → GoesToFirst m p g h
  pub to_second : p.side ≡ true → GoesToSecond m p g h

-- one placement after another
pub data ArePlacements {K : Type 0} (m : Measure K) (keys : List K) (least : ℕ) (g : Groups K) : Groups K → Type 0 where
  none : ArePlacements m keys least g g
  more : (h h' : Groups K) → ArePlacements m keys least g h → (p : Placing K) → IsPlacement m keys least h h' p → ArePlacements m keys least g h'

-- the groups begin with the seeds, the lower slot's key in the first, and keys are placed until none waits
pub record IsQuadraticSplit {K : Type 0} (m : Measure K) (keys : List K) (least : ℕ) (sides : List Bool) (first second : K) (end : Groups K) : Type 0 where
  pub first_seed : slice_get keys (seeds m keys).lower ≡ Some first
  pub second_seed : slice_get keys (seeds m keys).higher ≡ Some second
  pub placements : ArePlacements m keys least (begun keys (seeds m keys) first second) end
  pub none_waits : end.rest ≡ []
  pub sides_are : sides ≡ end.sides
