-- Sets of numbers in words, a bit each.
use Rattle.std.specs.Prelude.{◌≡◌, ◌≢◌, ℕ, ◌<◌, ◌≤◌, ◌/◌, ◌%◌, List, slice_index_or}
use Rattle.std.specs.Int.{bit_at}

-- 1 if the set has the number, otherwise 0
abbrev pub has : List ℕ → ℕ → ℕ
has words n = bit_at (slice_index_or words (n / 64) 0) (n % 64)

-- the least bit from one on that is set
pub record IsFirstBit (word from bit : ℕ) : Type 0 where
  pub start : from ≤ bit
  pub inside : bit < 64
  pub set : bit_at word bit ≡ 1
  pub none_before : (i : ℕ) → from ≤ i → i < bit → bit_at word i ≡ 0

-- the least number from one on that the set has
pub record IsFirst (words : List ℕ) (from n : ℕ) : Type 0 where
  pub start : from ≤ n
  pub there : has words n ≡ 1
  pub none_before : (k : ℕ) → from ≤ k → k < n → has words k ≡ 0

-- the set has no number from one on
abbrev pub NoneFrom : List ℕ → ℕ → Type 0
NoneFrom words from = (k : ℕ) → from ≤ k → has words k ≡ 0

-- as to each number but one, two sets agree
abbrev pub OthersStay : ℕ → List ℕ → List ℕ → Type 0
OthersStay n old new = (k : ℕ) → k ≢ n → has new k ≡ has old k
