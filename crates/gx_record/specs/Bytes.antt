-- Fields in bytes: numbers with the greatest byte first, and marks.
use Rattle.std.specs.Prelude.{ℕ, Bool, true, false, List}
use Rattle.std.specs.Int.{w16, w32, w64, to_be_bytes, from_be_bytes}

unfoldable pub u64_bytes : ℕ → List ℕ
u64_bytes n = to_be_bytes w64 n

unfoldable pub u32_bytes : ℕ → List ℕ
u32_bytes n = to_be_bytes w32 n

unfoldable pub u16_bytes : ℕ → List ℕ
u16_bytes n = to_be_bytes w16 n

unfoldable pub u64_of : List ℕ → ℕ
u64_of bytes = from_be_bytes w64 bytes

unfoldable pub u32_of : List ℕ → ℕ
u32_of bytes = from_be_bytes w32 bytes

unfoldable pub u16_of : List ℕ → ℕ
u16_of bytes = from_be_bytes w16 bytes

abbrev pub mark_byte : Bool → ℕ
mark_byte false = 0
mark_byte true = 1
