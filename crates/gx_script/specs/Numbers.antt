-- What a word says as a number.
use Rattle.std.specs.Prelude.{ℕ, ◌+◌, ◌-◌, ◌*◌, ◌^◌, nat_lt, nat_le, ◌==◌, Bool, ◌&&◌, if◌then◌else◌, ℤ, pos, ◌-ℤ◌, length, Option, None, Some, option_and_then, List, [], ◌∷◌}
use Rattle.std.specs.List.{list_all}

abbrev pub is_digit : ℕ → Bool
is_digit b = nat_le 48 b && nat_le b 57

-- each digit counts for its place
abbrev pub digits_value : List ℕ → ℕ
digits_value [] = 0
digits_value (d ∷ ds) = (d - 48) * 10 ^ length ds + digits_value ds

-- this number, if it is below the limit
abbrev pub if_below : ℕ → ℕ → Option ℕ
if_below limit n = if nat_lt n limit then Some n else None

-- one or more digits, with a value below 2^64
abbrev pub number_of : List ℕ → Option ℕ
number_of [] = None
number_of (d ∷ ds) = if list_all is_digit (d ∷ ds) then if_below (2 ^ 64) (digits_value (d ∷ ds)) else None

-- a value with one more digit at its end
abbrev pub next_value : ℕ → ℕ → Option ℕ
next_value value d = if is_digit d then if_below (2 ^ 64) (value * 10 + (d - 48)) else None

-- a number from 0 to 2^63 - 1
abbrev pub to_corner : ℕ → Option ℤ
to_corner n = if nat_lt n 9223372036854775808 then Some (pos n) else None

-- a number from -2^63 to 0
abbrev pub to_negative_corner : ℕ → Option ℤ
to_negative_corner n = if nat_le n 9223372036854775808 then Some (pos 0 -ℤ pos n) else None

-- a corner: one or more digits, after a minus sign or not, with a value in the range of 64 bits
abbrev pub corner_of : List ℕ → Option ℤ
corner_of [] = None
corner_of (b ∷ bs) = if b == 45 then option_and_then to_negative_corner (number_of bs) else option_and_then to_corner (number_of (b ∷ bs))
