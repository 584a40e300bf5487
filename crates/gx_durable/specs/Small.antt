-- What a small record says of its page: a change of it, and not how it then is.
use Rattle.std.specs.Prelude.{ℕ, Bool, List}

-- The pair of a row and a key's bytes gets this mark, true if it is marked. The pair comes, live. The entry in a slot
-- gets these bytes as its key. The pairs in these slots go.
pub data PageChange : Type 0 where
  SetMark : (row : ℕ) (key : List ℕ) (marked : Bool) → PageChange
  AddPair : (row : ℕ) (key : List ℕ) → PageChange
  SetKey : (slot : ℕ) (key : List ℕ) → PageChange
  RemoveSlots : (slots : List ℕ) → PageChange
