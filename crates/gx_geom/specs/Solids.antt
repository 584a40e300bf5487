-- Boxes of space, given by six corners, and the relations between them.
use Rattle.std.specs.Prelude.{ℕ, ◌*◌, ℤ, ◌≤ℤ◌, FitsSigned, Bool, ◌&&◌, List, ◌∷◌, ◌++◌}
use Rattle.std.specs.Int.{w32, int_min, int_max}
use Rattle.std.specs.Fmt.{signed_decimal}
use Rattle.std.specs.Ordering.{int_cmp, ordering_then}
use Rattle.std.specs.declared.cmp.Ordering.{Ordering}
use Rattle.gx_geom.specs.Spans.{Span, Meet, LieIn, meets, lies_in, size, span_of}

-- the corners of a box: the least x, y and z, and the greatest
pub record Solid : Type 0 where
  pub x1 : ℤ
  pub y1 : ℤ
  pub z1 : ℤ
  pub x2 : ℤ
  pub y2 : ℤ
  pub z2 : ℤ

-- corners that make a box: none is reversed, and each fits in 32 bits
pub record IsSolid (b : Solid) : Type 0 where
  pub x_in_order : b.x1 ≤ℤ b.x2
  pub y_in_order : b.y1 ≤ℤ b.y2
  pub z_in_order : b.z1 ≤ℤ b.z2
  pub x1_fits : FitsSigned w32 b.x1
  pub y1_fits : FitsSigned w32 b.y1
  pub z1_fits : FitsSigned w32 b.z1
  pub x2_fits : FitsSigned w32 b.x2
  pub y2_fits : FitsSigned w32 b.y2
  pub z2_fits : FitsSigned w32 b.z2

-- the part of each axis above which a box lies
abbrev pub along_x : Solid → Span
along_x b = span_of b.x1 b.x2

abbrev pub along_y : Solid → Span
along_y b = span_of b.y1 b.y2

abbrev pub along_z : Solid → Span
along_z b = span_of b.z1 b.z2

-- on each axis, neither box ends before the other begins
pub record Overlap (a b : Solid) : Type 0 where
  pub in_x : Meet (along_x a) (along_x b)
  pub in_y : Meet (along_y a) (along_y b)
  pub in_z : Meet (along_z a) (along_z b)

-- on each axis, a begins no earlier than b and ends no later
pub record Within (a b : Solid) : Type 0 where
  pub in_x : LieIn (along_x a) (along_x b)
  pub in_y : LieIn (along_y a) (along_y b)
  pub in_z : LieIn (along_z a) (along_z b)

-- the same relations as tests
abbrev pub overlaps : Solid → Solid → Bool
overlaps a b = meets (along_x a) (along_x b) && (meets (along_y a) (along_y b) && meets (along_z a) (along_z b))

abbrev pub within : Solid → Solid → Bool
within a b = lies_in (along_x a) (along_x b) && (lies_in (along_y a) (along_y b) && lies_in (along_z a) (along_z b))

-- by x1, then y1, z1, x2, y2 and z2
abbrev pub solid_cmp : Solid → Solid → Ordering
solid_cmp a b =
    ordering_then (int_cmp a.x1 b.x1) (ordering_then (int_cmp a.y1 b.y1) (ordering_then (int_cmp a.z1 b.z1)
    (ordering_then (int_cmp a.x2 b.x2) (ordering_then (int_cmp a.y2 b.y2) (int_cmp a.z2 b.z2)))))

-- the corners of the least box round two
abbrev pub union : Solid → Solid → Solid
union a b = record {
  x1 = int_min a.x1 b.x1;
  y1 = int_min a.y1 b.y1;
  z1 = int_min a.z1 b.z1;
  x2 = int_max a.x2 b.x2;
  y2 = int_max a.y2 b.y2;
  z2 = int_max a.z2 b.z2;
}

-- width by height by depth
abbrev pub volume : Solid → ℕ
volume b = size (along_x b) * size (along_y b) * size (along_z b)

-- the six numbers in decimal, with a space between
abbrev pub corners_text : Solid → List ℕ
corners_text b =
    signed_decimal b.x1 ++ 32 ∷ (signed_decimal b.y1 ++ 32 ∷ (signed_decimal b.z1 ++ 32 ∷ (signed_decimal b.x2 ++ 32 ∷
    (signed_decimal b.y2 ++ 32 ∷ signed_decimal b.z2))))

-- the corners in the order in which they are written
abbrev pub solid_of : ℤ → ℤ → ℤ → ℤ → ℤ → ℤ → Solid
solid_of x1 y1 z1 x2 y2 z2 = record { x1 = x1; y1 = y1; z1 = z1; x2 = x2; y2 = y2; z2 = z2 }
