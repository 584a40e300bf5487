-- What a record of the log says, without where its bytes lie.
use Rattle.std.specs.Prelude.{ℕ, Bool, List}

-- A mark is true if the entry is marked. A page is its number and its image. Bit, Add, Widen and Sweep say what changes
-- on one page and not how it then is: a pair's mark, a pair that comes, the key in a slot, the slots that go.
pub data Rec : Type 0 where
  Pages : (counter used : ℕ) (pages : List (ℕ × List ℕ)) → Rec
  Write : (tx row : ℕ) (key : List ℕ) (before after : Bool) (leaf : ℕ) (image : List ℕ) → Rec
  Commit : (tx n : ℕ) → Rec
  End : (tx : ℕ) → Rec
  Counters : (n counter used next : ℕ) → Rec
  Note : (tx row : ℕ) (key : List ℕ) (before : Bool) (leaf : ℕ) → Rec
  Bit : (tx row : ℕ) (key : List ℕ) (before after : Bool) (leaf : ℕ) → Rec
  Add : (tx row : ℕ) (key : List ℕ) (leaf : ℕ) → Rec
  Widen : (page slot : ℕ) (key : List ℕ) → Rec
  Sweep : (page : ℕ) (slots : List ℕ) → Rec
