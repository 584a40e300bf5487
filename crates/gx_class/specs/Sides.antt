-- What each split of keys in two groups leaves.
use Rattle.std.specs.Prelude.{◌≡◌, ℕ, ◌≤◌, Bool, not, List, length, count_by}

-- each of n slots has one side, and each side has at least its least number
pub record LeavesEach (n least : ℕ) (sides : List Bool) : Type 0 where
  pub each_has_one : length sides ≡ n
  pub first_has : least ≤ count_by not sides
  pub second_has : least ≤ count_by (λ side. side) sides
