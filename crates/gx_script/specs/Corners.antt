-- Keys by the numbers that they are written in.
use Rattle.std.specs.Prelude.{ℕ, ℤ, pos, negsuc, ◌≡◌, ◌≢◌, ◌⊎◌, int_le, FitsSigned, Bool, true, false, ◌&&◌, if◌then◌else◌, Option, None, Some, List, [], ◌∷◌, length, get_or}
use Rattle.std.specs.Int.{w64}
use Rattle.std.specs.List.{All, list_all, flat_map}
use Rattle.std.specs.Fmt.{signed_decimal}
use Rattle.std.specs.declared.cmp.Ordering.{Ordering}
use Rattle.gx_geom.specs.Rectangles.{Rectangle, rectangle_of}
use Rattle.gx_geom.specs.Solids.{Solid, solid_of}

-- How keys are written: in how many numbers, in which, whether numbers may be corners, and the key that they make, if
-- they make one.
pub record Grammar (B : Type 0) : Type 0 where
  pub count : ℕ
  pub corners : B → List ℤ
  pub fit : List ℤ → Bool
  pub made : List ℤ → Option B

-- all that a key type's trait and those above it say of its keys
abbrev pub CornerMembers : Type 0 → Type 0
CornerMembers B = record {
  partial_cmp : B → B → Option Ordering;
  eq : B → B → Bool;
  cmp : B → B → Ordering;
  overlap : B → B → Bool;
  inside : B → B → Bool;
  COUNT : ℕ;
  corners : B → List ℤ;
  fit : List ℤ → Bool;
  made : List ℤ → Option B;
}

-- the grammar of a key type, from what its trait says of its keys
abbrev pub grammar_of : {B : Type 0} → CornerMembers B → Grammar B
grammar_of key = record { count = key.COUNT; corners = key.corners; fit = key.fit; made = key.made }

-- the same, from its four parts
abbrev pub grammar : {B : Type 0} → ℕ → (B → List ℤ) → (List ℤ → Bool) → (List ℤ → Option B) → Grammar B
grammar count corners fit made = record { count = count; corners = corners; fit = fit; made = made }

-- each number in decimal, after a space
abbrev pub spaced : List ℤ → List ℕ
spaced zs = flat_map (λ z. 32 ∷ signed_decimal z) zs

-- a key that its own corners make; these are as many as a key has, and each is in the range of 64 bits
pub record IsWritten {B : Type 0} (grammar : Grammar B) (key : B) : Type 0 where
  pub in_range : All (FitsSigned w64) (grammar.corners key)
  pub as_many : length (grammar.corners key) ≡ grammar.count
  pub fits : grammar.fit (grammar.corners key) ≡ true
  pub makes : grammar.made (grammar.corners key) ≡ Some key

-- as many numbers as a key has, and each may be a corner, but they make none: they are reversed
pub record IsReversed {B : Type 0} (grammar : Grammar B) (zs : List ℤ) : Type 0 where
  pub as_many : length zs ≡ grammar.count
  pub fits : grammar.fit zs ≡ true
  pub makes : grammar.made zs ≡ None

-- too few numbers or too many, or one that can't be a corner
abbrev pub MakesNoKey : {B : Type 0} → Grammar B → List ℤ → Type 0
MakesNoKey grammar zs = (length zs ≢ grammar.count) ⊎ (grammar.fit zs ≡ false)

-- a number in the range of 32 bits
abbrev pub is_short : ℤ → Bool
is_short z = int_le (negsuc 2147483647) z && int_le z (pos 2147483647)

-- the number at this place
abbrev pub number_at : ℕ → List ℤ → ℤ
number_at i zs = get_or zs i (pos 0)

-- the corners of a box of the plane
abbrev pub rectangle_corners : Rectangle → List ℤ
rectangle_corners b = b.x1 ∷ b.y1 ∷ b.x2 ∷ b.y2 ∷ []

-- the box that four numbers make, if none is reversed
abbrev pub rectangle_made : List ℤ → Option Rectangle
rectangle_made zs =
    if int_le (number_at 0 zs) (number_at 2 zs) && int_le (number_at 1 zs) (number_at 3 zs)
    then Some (rectangle_of (number_at 0 zs) (number_at 1 zs) (number_at 2 zs) (number_at 3 zs)) else None

-- the corners of a box of space
abbrev pub solid_corners : Solid → List ℤ
solid_corners b = b.x1 ∷ b.y1 ∷ b.z1 ∷ b.x2 ∷ b.y2 ∷ b.z2 ∷ []

-- the box that six numbers make, if none is reversed
abbrev pub solid_made : List ℤ → Option Solid
solid_made zs =
    if int_le (number_at 0 zs) (number_at 3 zs) && (int_le (number_at 1 zs) (number_at 4 zs) && int_le (number_at 2 zs) (number_at 5 zs))
    then Some (solid_of (number_at 0 zs) (number_at 1 zs) (number_at 2 zs) (number_at 3 zs) (number_at 4 zs) (number_at 5 zs)) else None

-- how boxes of the plane and of space are written
abbrev pub rectangle_grammar : Grammar Rectangle
rectangle_grammar = grammar 4 rectangle_corners (list_all is_short) rectangle_made

abbrev pub solid_grammar : Grammar Solid
solid_grammar = grammar 6 solid_corners (list_all is_short) solid_made
