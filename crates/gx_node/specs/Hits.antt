-- Which slots a scan finds.
use Rattle.std.specs.Prelude.{◌≡◌, ℕ, zero, suc, if◌then◌else◌, ◌<◌, ◌≤◌, Bool, true, false, ◌==◌, ◌&&◌, ◌||◌, nat_lt, List, [], ◌∷◌, ◌++◌, ◌+◌, ◌-◌, length, map, min, take, filter, slice_get, slice_index_or, Option, Some, None}
use Rattle.std.specs.List.{filter_map}
use Rattle.gx_node.specs.declared.passing.TheConstants.{BLOCK}

-- the first slot from a slot on that is a hit
abbrev pub IsNextHit : List Bool → ℕ → Option ℕ → Type 0
IsNextHit hits from (Some slot) = (from ≤ slot) × (slot < length hits) × (slice_index_or hits slot false ≡ true) × ((k : ℕ) → from ≤ k → k < slot → slice_index_or hits k false ≡ false)
IsNextHit hits from None = (k : ℕ) → from ≤ k → k < length hits → slice_index_or hits k false ≡ false

-- the hits among n slots from a slot on, in order
unfoldable pub hits_among : List Bool → ℕ → ℕ → List ℕ
hits_among hits from zero = []
hits_among hits from (suc n) =
    if slice_index_or hits (from + n) false then hits_among hits from n ++ (from + n) ∷ [] else hits_among hits from n

-- of a block's elements, the 64 from one on or as many as there are, those that pass a test
abbrev pub passing_of : {X : Type 0} → (X → Bool) → List X → ℕ → List X
passing_of test xs from = filter_map (slice_get xs) (hits_among (map test xs) from (min BLOCK (length xs - from)))

-- block by block, what is found is what passes the test, in order
abbrev pub BlocksAreAFilter : Type 0 → Type 0
BlocksAreAFilter X = (test : X → Bool) (xs : List X) (from : ℕ) → from ≤ length xs
    → filter test (take (from + BLOCK) xs) ≡ filter test (take from xs) ++ passing_of test xs from

-- the first penalty is less: its bound grows less, or the same from a smaller bound
abbrev pub costs_less : ℕ × ℕ → ℕ × ℕ → Bool
costs_less a b = nat_lt a.0 b.0 || ((a.0 == b.0) && nat_lt a.1 b.1)

-- these slots are found from a slot on, each search beginning after the slot before, and then none
abbrev pub AreHits : List Bool → ℕ → List ℕ → Type 0
AreHits hits from [] = IsNextHit hits from None
AreHits hits from (slot ∷ slots) = IsNextHit hits from (Some slot) × AreHits hits (slot + 1) slots

-- what is found slot by slot is what passes the test, in order
pub record GathersByHits {X : Type 0} (test : X → Bool) (xs : List X) : Type 0 where
  -- a hit is the next element that passes
  pub goes_on : (from slot : ℕ) (x : X) → IsNextHit (map test xs) from (Some slot) → slice_get xs slot ≡ Some x
      → filter test (take (slot + 1) xs) ≡ filter test (take from xs) ++ x ∷ []
  -- if there is none, all that pass were found
  pub ends : (from : ℕ) → from ≤ length xs → IsNextHit (map test xs) from None → filter test (take from xs) ≡ filter test xs
  -- so the elements at all hits are those that pass
  pub all : (slots : List ℕ) → AreHits (map test xs) 0 slots → filter_map (slice_get xs) slots ≡ filter test xs

abbrev pub HitsAreAFilter : Type 0 → Type 0
HitsAreAFilter X = (test : X → Bool) (xs : List X) → GathersByHits test xs
