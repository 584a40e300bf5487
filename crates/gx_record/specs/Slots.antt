-- The slots of a sweep, two bytes each.
use Rattle.std.specs.Prelude.{ℕ, ◌+◌, ◌^◌, ◌<◌, ◌≤◌, ◌&&◌, Bool, true, List, [], ◌∷◌, ◌++◌, nat_le}
use Rattle.gx_record.specs.Bytes.{u16_bytes, u16_of}

abbrev pub slots_bytes : List ℕ → List ℕ
slots_bytes [] = []
slots_bytes (slot ∷ slots) = u16_bytes slot ++ slots_bytes slots

-- the slots that bytes spell; a last byte alone spells none
abbrev pub slots_in : List ℕ → List ℕ
slots_in [] = []
slots_in (byte ∷ []) = []
slots_in (high ∷ low ∷ bytes) = u16_of (high ∷ low ∷ []) ∷ slots_in bytes

-- slots that rise, from a least one on
abbrev pub AreSlots : ℕ → List ℕ → Type 0
AreSlots least [] = Unit {0}
AreSlots least (slot ∷ slots) = (least ≤ slot) × (slot < 2 ^ 16) × AreSlots (slot + 1) slots

-- whether numbers rise, from a least one on
abbrev pub rise_from : ℕ → List ℕ → Bool
rise_from least [] = true
rise_from least (slot ∷ slots) = nat_le least slot && rise_from (slot + 1) slots
