-- What is kept of the groups: what covers each, and the keys that wait with their growths.
use Rattle.std.specs.Prelude.{ℕ, ◌≡◌, ◌+◌, ◌<◌, ◌^◌, Bool, true, false, List, All, Some, length, map, slice_get, slice_set}
use Rattle.std.specs.Int.{abs_diff}
use Rattle.gx_split.specs.declared.waiting.Waiting.{Waiting}
use Rattle.gx_split.specs.declared.waiting.Covers.{Covers}
use Rattle.gx_split.specs.Split.{Measure, Groups, growth}

abbrev pub slot_of : {K : Type 0} → Waiting K → ℕ
slot_of w = w.slot

-- how far apart the growths of the two groups are
abbrev pub gap_of : {K : Type 0} → Waiting K → ℕ
gap_of w = w.apart

-- the cover of a group, of the second if the side is true
abbrev pub cover_of : {K : Type 0} → Bool → Covers K → K
cover_of true c = c.second
cover_of false c = c.first

-- a key goes to a group, the second if the side is true
abbrev pub covers_with : {K : Type 0} → Measure K → Bool → Covers K → K → Covers K
covers_with m true c key = record c { second = m.join c.second key; in_second = c.in_second + 1 }
covers_with m false c key = record c { first = m.join c.first key; in_first = c.in_first + 1 }

-- a key that waits, with another growth of one group
abbrev pub with_first : {K : Type 0} → Waiting K → ℕ → Waiting K
with_first w grows = record w { first = grows; apart = abs_diff grows w.second }

abbrev pub with_second : {K : Type 0} → Waiting K → ℕ → Waiting K
with_second w grows = record w { second = grows; apart = abs_diff w.first grows }

-- the same key, with its growth beside that group's cover
abbrev pub with_growth : {K : Type 0} → Measure K → Bool → Covers K → Waiting K → Waiting K
with_growth m true c w = with_second w (growth m c.second (Some w.key.now))
with_growth m false c w = with_first w (growth m c.first (Some w.key.now))

-- the sides with one more, if all are false at first
abbrev pub sides_with : Bool → List Bool → ℕ → List Bool
sides_with true sides slot = slice_set sides slot true
sides_with false sides slot = sides

-- the groups for which these are kept
abbrev pub groups_of : {K : Type 0} → Covers K → List (Waiting K) → List Bool → Groups K
groups_of c waiting sides = record {
  first = c.first;
  second = c.second;
  in_first = c.in_first;
  in_second = c.in_second;
  rest = map slot_of waiting;
  sides = sides;
}

-- the key's growths are those beside the covers, and so is how far they are apart
pub record HasGrowths {K : Type 0} (m : Measure K) (c : Covers K) (w : Waiting K) : Type 0 where
  pub first : w.first ≡ growth m c.first (Some w.key.now)
  pub second : w.second ≡ growth m c.second (Some w.key.now)
  pub apart : w.apart ≡ abs_diff w.first w.second

-- if a measure's sizes are short, so are a key's growths
pub record IsShort {K : Type 0} (short : Bool) (w : Waiting K) : Type 0 where
  pub first : short ≡ true → w.first < 2 ^ 64
  pub second : short ≡ true → w.second < 2 ^ 64
  pub apart : short ≡ true → w.apart < 2 ^ 64

-- the key is the one at the slot, and has its growths beside the covers
pub record IsFresh {K : Type 0} (m : Measure K) (keys : List K) (c : Covers K) (w : Waiting K) : Type 0 where
  pub key : slice_get keys w.slot ≡ Some w.key.now
  pub within : w.slot < length keys
  pub grown : HasGrowths m c w

-- each key that waits is fresh, and none is lost
pub record IsKept {K : Type 0} (m : Measure K) (keys : List K) (c : Covers K) (waiting : List (Waiting K)) : Type 0 where
  pub fresh : All (IsFresh m keys c) waiting
  pub counted : c.in_first + c.in_second + length waiting ≡ length keys
