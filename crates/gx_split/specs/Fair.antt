-- What a split promises, apart from how it is found.
use Rattle.std.specs.Prelude.{◌≡◌, ℕ, ◌<◌, ◌≤◌, ℤ, ◌≤ℤ◌, ◌<ℤ◌, ◌⊎◌, Bool, true, false, not, List, Some, length, count_by, slice_get, slice_index}
use Rattle.gx_split.specs.Split.{Pair}

-- each of n slots has one side, each side has at least its least number, and the seeds are on different sides
pub record IsFairSplit (n least : ℕ) (seeds : Pair) (sides : List Bool) : Type 0 where
  pub each_has_one : length sides ≡ n
  pub first_has : least ≤ count_by not sides
  pub second_has : least ≤ count_by (λ side. side) sides
  pub lower_is_first : slice_get sides seeds.lower ≡ Some false
  pub higher_is_second : slice_get sides seeds.higher ≡ Some true

-- a pair of slots comes before another in slot order
abbrev pub Precedes : ℕ → ℕ → Pair → Type 0
Precedes i j p = (i < p.lower) ⊎ ((i ≡ p.lower) × (j < p.higher))

-- of the pairs of n slots none wastes more, and each one before it wastes less
pub record IsFirstWorst (w : ℕ → ℕ → ℤ) (n : ℕ) (p : Pair) : Type 0 where
  pub in_order : p.lower < p.higher
  pub within : p.higher < n
  pub worst : (i j : ℕ) → i < j → j < n → w i j ≤ℤ w p.lower p.higher
  pub first : (i j : ℕ) → i < j → j < n → Precedes i j p → w i j <ℤ w p.lower p.higher

-- no number of the list is greater, and each one before it is less
pub record IsFirstGreatest (xs : List ℕ) (k place : ℕ) : Type 0 where
  pub within : place < k
  pub greatest : (i : ℕ) → i < k → slice_index xs i ≤ slice_index xs place
  pub first : (i : ℕ) → i < place → slice_index xs i < slice_index xs place
