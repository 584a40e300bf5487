-- Sets of pages by their numbers.
use Rattle.std.specs.Prelude.{◌≡◌, ℕ, ◌≤◌, ◌/◌, List}
use Rattle.gx_disk.specs.declared.layout.TheConstants.{MAX_PAGES}
use Rattle.gx_pool.specs.Words.{has}

-- a group has a bit set exactly for each of its words that has a number
pub record AreGrouped (words groups : List ℕ) : Type 0 where
  pub some : (j : ℕ) → has groups j ≡ 1 → (n : ℕ) × (n / 64 ≡ j) × (has words n ≡ 1)
  pub none : (n : ℕ) → has groups (n / 64) ≡ 0 → has words n ≡ 0

-- each number of the set is at most a page's
abbrev pub ArePages : List ℕ → Type 0
ArePages words = (n : ℕ) → has words n ≡ 1 → n ≤ MAX_PAGES
