-- Boxes as rectangles, given by four corners, and the relations between them.
use Rattle.std.specs.Prelude.{ℕ, ◌*◌, ℤ, ◌-ℤ◌, ◌≤ℤ◌, int_le, unsigned_abs, FitsSigned, Bool, ◌&&◌, List, ◌∷◌, ◌++◌}
use Rattle.std.specs.Int.{w32, int_min, int_max}
use Rattle.std.specs.Fmt.{signed_decimal}
use Rattle.std.specs.Ordering.{int_cmp, ordering_then}
use Rattle.std.specs.declared.cmp.Ordering.{Ordering}

-- the corners of a box: the least x and y, and the greatest
pub record Rectangle : Type 0 where
  pub x1 : ℤ
  pub y1 : ℤ
  pub x2 : ℤ
  pub y2 : ℤ

-- corners that make a box: none is reversed, and each fits in 32 bits
pub record IsBox (b : Rectangle) : Type 0 where
  pub x_in_order : b.x1 ≤ℤ b.x2
  pub y_in_order : b.y1 ≤ℤ b.y2
  pub x1_fits : FitsSigned w32 b.x1
  pub y1_fits : FitsSigned w32 b.y1
  pub x2_fits : FitsSigned w32 b.x2
  pub y2_fits : FitsSigned w32 b.y2

-- on each axis, neither box ends before the other begins
pub record Overlap (a b : Rectangle) : Type 0 where
  pub x_left : a.x1 ≤ℤ b.x2
  pub x_right : b.x1 ≤ℤ a.x2
  pub y_left : a.y1 ≤ℤ b.y2
  pub y_right : b.y1 ≤ℤ a.y2

-- on each axis, a begins no earlier than b and ends no later
pub record Within (a b : Rectangle) : Type 0 where
  pub x_from : b.x1 ≤ℤ a.x1
  pub x_to : a.x2 ≤ℤ b.x2
  pub y_from : b.y1 ≤ℤ a.y1
  pub y_to : a.y2 ≤ℤ b.y2

-- the same relations as tests
abbrev pub overlaps : Rectangle → Rectangle → Bool
overlaps a b = (int_le a.x1 b.x2 && int_le b.x1 a.x2) && (int_le a.y1 b.y2 && int_le b.y1 a.y2)

abbrev pub within : Rectangle → Rectangle → Bool
within a b = (int_le b.x1 a.x1 && int_le a.x2 b.x2) && (int_le b.y1 a.y1 && int_le a.y2 b.y2)

abbrev pub covers : Rectangle → Rectangle → Bool
covers a b = within b a

-- by x1, then y1, then x2, then y2
abbrev pub rectangle_cmp : Rectangle → Rectangle → Ordering
rectangle_cmp a b =
    ordering_then (int_cmp a.x1 b.x1) (ordering_then (int_cmp a.y1 b.y1) (ordering_then (int_cmp a.x2 b.x2) (int_cmp a.y2 b.y2)))

-- the corners of the least box round two
abbrev pub union : Rectangle → Rectangle → Rectangle
union a b = record { x1 = int_min a.x1 b.x1; y1 = int_min a.y1 b.y1; x2 = int_max a.x2 b.x2; y2 = int_max a.y2 b.y2 }

-- width by height
abbrev pub area : Rectangle → ℕ
area b = unsigned_abs (b.x2 -ℤ b.x1) * unsigned_abs (b.y2 -ℤ b.y1)

-- the four numbers in decimal, with a space between
abbrev pub corners_text : Rectangle → List ℕ
corners_text b =
    signed_decimal b.x1 ++ 32 ∷ (signed_decimal b.y1 ++ 32 ∷ (signed_decimal b.x2 ++ 32 ∷ signed_decimal b.y2))

-- the corners in the order in which they are written
abbrev pub rectangle_of : ℤ → ℤ → ℤ → ℤ → Rectangle
rectangle_of x1 y1 x2 y2 = record { x1 = x1; y1 = y1; x2 = x2; y2 = y2 }
