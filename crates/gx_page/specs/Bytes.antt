-- Words on lists of bytes: numbers spelled with the greatest byte first, runs of zeros, and writes in place.
use Rattle.std.specs.Prelude.{ℕ, ◌+◌, ◌<◌, ◌==◌, Bool, List, ◌++◌, length, take, drop, replicate, slice_index, slice_range}
use Rattle.std.specs.Int.{to_be_bytes, from_be_bytes}
use Rattle.std.specs.List.{list_all}
use mir.Syntax.{w16, w32, w64}

abbrev pub spell_16 : ℕ → List ℕ
spell_16 n = to_be_bytes w16 n

abbrev pub spell_32 : ℕ → List ℕ
spell_32 n = to_be_bytes w32 n

abbrev pub spell_64 : ℕ → List ℕ
spell_64 n = to_be_bytes w64 n

abbrev pub number_16 : List ℕ → ℕ
number_16 bytes = from_be_bytes w16 bytes

abbrev pub number_32 : List ℕ → ℕ
number_32 bytes = from_be_bytes w32 bytes

abbrev pub number_64 : List ℕ → ℕ
number_64 bytes = from_be_bytes w64 bytes

-- the number that the bytes from a place on spell, two, four or eight of them
abbrev pub number_16_at : List ℕ → ℕ → ℕ
number_16_at bytes at = number_16 (slice_range bytes at (at + 2))

abbrev pub number_32_at : List ℕ → ℕ → ℕ
number_32_at bytes at = number_32 (slice_range bytes at (at + 4))

abbrev pub number_64_at : List ℕ → ℕ → ℕ
number_64_at bytes at = number_64 (slice_range bytes at (at + 8))

-- n zero bytes
unfoldable pub zeros : ℕ → List ℕ
zeros n = replicate n 0

abbrev pub all_zero : List ℕ → Bool
all_zero bytes = list_all (λ byte. byte == 0) bytes

abbrev pub AreBytes : List ℕ → Type 0
AreBytes bytes = (k : ℕ) → slice_index bytes k < 256

-- the bytes with others written over them from a place on
abbrev pub overwrite : List ℕ → ℕ → List ℕ → List ℕ
overwrite bytes at others = take at bytes ++ (others ++ drop (at + length others) bytes)
