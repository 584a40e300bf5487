-- The quadratic split of a list of keys in two groups. A key is named by its slot, its place in the list.
use Rattle.std.specs.Prelude.{ℕ, zero, suc, ◌+◌, ◌-◌, ℤ, pos, ◌-ℤ◌, int_lt, nat_lt, nat_le, nat_eq, Bool, true, false, ◌||◌, if◌then◌else◌, List, [], ◌∷◌, ◌++◌, Option, Some, None, length, map, remove, slice_get, slice_set, slice_index, replicate}
use Rattle.std.specs.Int.{abs_diff}

-- how keys are joined, and how large a key is
pub record Measure (K : Type 0) : Type 0 where
  pub join : K → K → K
  pub size : K → ℕ

abbrev pub measure : {K : Type 0} → (K → K → K) → (K → ℕ) → Measure K
measure join size = record { join = join; size = size }

-- by how much the union of two keys is larger than both together
abbrev pub waste : {K : Type 0} → Measure K → K → K → ℤ
waste m a b = (pos (m.size (m.join a b)) -ℤ pos (m.size a)) -ℤ pos (m.size b)

abbrev pub waste_between : {K : Type 0} → Measure K → Option K → Option K → ℤ
waste_between m (Some a) (Some b) = waste m a b
waste_between m (Some a) None = pos 0
waste_between m None b = pos 0

-- the waste of the keys at two slots
unfoldable pub waste_at : {K : Type 0} → Measure K → List K → ℕ → ℕ → ℤ
waste_at m keys i j = waste_between m (slice_get keys i) (slice_get keys j)

-- two slots, the lower first
pub record Pair : Type 0 where
  pub lower : ℕ
  pub higher : ℕ

abbrev pub pair : ℕ → ℕ → Pair
pair i j = record { lower = i; higher = j }

-- the first pair, but if the second wastes more, the second
abbrev pub worse : (ℕ → ℕ → ℤ) → Pair → Pair → Pair
worse w p q = if int_lt (w p.lower p.higher) (w q.lower q.higher) then q else p

-- the first worst of a pair and of the pairs of slot i with the next k slots
unfoldable pub worst_in_row : (ℕ → ℕ → ℤ) → Pair → ℕ → ℕ → Pair
worst_in_row w best i zero = best
worst_in_row w best i (suc k) = worse w (worst_in_row w best i k) (pair i (i + 1 + k))

-- the first worst of the pairs whose lower slot is below m, among n slots
unfoldable pub worst_in_rows : (ℕ → ℕ → ℤ) → ℕ → ℕ → Pair
worst_in_rows w n zero = pair 0 1
worst_in_rows w n (suc m) = worst_in_row w (worst_in_rows w n m) m (n - 1 - m)

-- the first of the pairs of n slots that waste most
unfoldable pub worst_pair : (ℕ → ℕ → ℤ) → ℕ → Pair
worst_pair w n = worst_in_rows w n (n - 1)

-- the two groups while keys are placed: what covers each, how many each has, the slots that wait, and the side
-- of each slot, true for the second group
pub record Groups (K : Type 0) : Type 0 where
  pub first : K
  pub second : K
  pub in_first : ℕ
  pub in_second : ℕ
  pub rest : List ℕ
  pub sides : List Bool

-- how much a cover grows by a key
abbrev pub growth : {K : Type 0} → Measure K → K → Option K → ℕ
growth m cover (Some key) = m.size (m.join cover key) - m.size cover
growth m cover None = 0

-- how much a cover grows by the key at a slot
unfoldable pub growth_at : {K : Type 0} → Measure K → List K → K → ℕ → ℕ
growth_at m keys cover slot = growth m cover (slice_get keys slot)

-- how far apart the growths of the two groups are
abbrev pub difference : {K : Type 0} → Measure K → List K → K → K → ℕ → ℕ
difference m keys first second slot = abs_diff (growth_at m keys first slot) (growth_at m keys second slot)

-- the place of the first greatest of the first k numbers
unfoldable pub greatest_upto : List ℕ → ℕ → ℕ
greatest_upto xs zero = 0
greatest_upto xs (suc k) =
    if nat_lt (slice_index xs (greatest_upto xs k)) (slice_index xs k) then k else greatest_upto xs k

-- the place of the first greatest number of a list
unfoldable pub first_greatest : List ℕ → ℕ
first_greatest xs = greatest_upto xs (length xs)

-- true if the second number is less, false if the first is
abbrev pub second_less : ℕ → ℕ → Bool → Bool
second_less a b tie = if nat_lt b a then true else (if nat_lt a b then false else tie)

-- whether a key goes to the second group by the growths, then by the sizes, then by the numbers of keys
abbrev pub prefers_second : {K : Type 0} → Measure K → Groups K → ℕ → ℕ → Bool
prefers_second m g first_grows second_grows =
    second_less first_grows second_grows (second_less (m.size g.first) (m.size g.second) (nat_lt g.in_second g.in_first))

-- whether a key goes to the second group; a group that needs all that wait gets them
abbrev pub goes_second : {K : Type 0} → Measure K → Groups K → ℕ → ℕ → ℕ → Bool
goes_second m g least first_grows second_grows =
    if nat_le (g.in_first + length g.rest) least then false
    else (if nat_le (g.in_second + length g.rest) least then true else prefers_second m g first_grows second_grows)

abbrev pub joined_with : {K : Type 0} → Measure K → K → Option K → K
joined_with m cover (Some key) = m.join cover key
joined_with m cover None = cover

-- the groups after the slot at a place of those that wait went to a side
abbrev pub put : {K : Type 0} → Measure K → List K → Groups K → ℕ → ℕ → Bool → Groups K
put m keys g place slot true =
    record g {
      second = joined_with m g.second (slice_get keys slot);
      in_second = g.in_second + 1;
      rest = remove g.rest place;
      sides = slice_set g.sides slot true;
    }
put m keys g place slot false =
    record g { first = joined_with m g.first (slice_get keys slot); in_first = g.in_first + 1; rest = remove g.rest place }

-- the place, among the slots that wait, of the one to be placed next
abbrev pub next_place : {K : Type 0} → Measure K → List K → Groups K → ℕ
next_place m keys g = first_greatest (map (difference m keys g.first g.second) g.rest)

abbrev pub put_next : {K : Type 0} → Measure K → List K → ℕ → Groups K → ℕ → ℕ → Groups K
put_next m keys least g place slot =
    put m keys g place slot (goes_second m g least (growth_at m keys g.first slot) (growth_at m keys g.second slot))

-- one key more is placed
unfoldable pub place_one : {K : Type 0} → Measure K → List K → ℕ → Groups K → Groups K
place_one m keys least g = put_next m keys least g (next_place m keys g) (slice_index g.rest (next_place m keys g))

-- k keys more are placed
unfoldable pub placed : {K : Type 0} → Measure K → List K → ℕ → Groups K → ℕ → Groups K
placed m keys least g zero = g
placed m keys least g (suc k) = place_one m keys least (placed m keys least g k)

-- the slots below k beside a pair's, in order
unfoldable pub others : Pair → ℕ → List ℕ
others p zero = []
others p (suc k) = if nat_eq k p.lower || nat_eq k p.higher then others p k else others p k ++ k ∷ []

-- two groups of one key each
abbrev pub begun : {K : Type 0} → List K → Pair → K → K → Groups K
begun keys p a b = record {
  first = a;
  second = b;
  in_first = 1;
  in_second = 1;
  rest = others p (length keys);
  sides = slice_set (replicate (length keys) false) p.higher true;
}

-- the pair with which the groups begin
abbrev pub seeds : {K : Type 0} → Measure K → List K → Pair
seeds m keys = worst_pair (waste_at m keys) (length keys)

abbrev pub sides_from : {K : Type 0} → Measure K → List K → ℕ → Pair → Option K → Option K → List Bool
sides_from m keys least p (Some a) (Some b) = (placed m keys least (begun keys p a b) (length keys - 2)).sides
sides_from m keys least p (Some a) None = []
sides_from m keys least p None b = []

-- the side of each slot: true for the second group
unfoldable pub split_sides : {K : Type 0} → Measure K → List K → ℕ → List Bool
split_sides m keys least =
    let p = seeds m keys in
    sides_from m keys least p (slice_get keys p.lower) (slice_get keys p.higher)
