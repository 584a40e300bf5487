-- Sectors of 512 bytes in a list of bytes.
use Rattle.std.specs.Prelude.{◌≡◌, ◌⊎◌, ℕ, ◌+◌, ◌*◌, ◌%◌, ◌<◌, ◌≤◌, List, ◌++◌, length, take, drop}

-- so many bytes from sector first on
unfoldable pub span_of : List ℕ → ℕ → ℕ → List ℕ
span_of bytes first size = take size (drop (512 * first) bytes)

-- one sector's bytes
unfoldable pub sector_of : List ℕ → ℕ → List ℕ
sector_of bytes s = take 512 (drop (512 * s) bytes)

-- these bytes in the place of those from place at on
unfoldable pub put : ℕ → List ℕ → List ℕ → List ℕ
put at new bytes = take at bytes ++ (new ++ drop (length new) (drop at bytes))

-- so many bytes from sector first on are one or more whole sectors of the device
pub record IsSpan (sectors first size : ℕ) : Type 0 where
  pub some : 0 < size
  pub whole : size % 512 ≡ 0
  pub inside : 512 * first + size ≤ 512 * sectors

-- the sector is one of the n from first on
pub record IsWithin (first n s : ℕ) : Type 0 where
  pub from : first ≤ s
  pub below : s < first + n

-- the sector is none of the n from first on
abbrev pub IsOutside : ℕ → ℕ → ℕ → Type 0
IsOutside first n s = (s < first) ⊎ (first + n ≤ s)
