-- What bounds the unions with some boxes.
use Rattle.std.specs.Prelude.{ℕ, ℤ, ◌≤◌, ◌≤ℤ◌, ◌-ℤ◌, unsigned_abs}
use Rattle.gx_geom.specs.Rectangles.{Rectangle}
use Rattle.gx_geom.specs.Spans.{Span, size}
use Rattle.gx_geom.specs.Solids.{Solid, along_x, along_y, along_z}
use Rattle.gx_split.specs.declared.boxes.BoxFrame.{BoxFrame}
use Rattle.gx_split.specs.declared.solids.SolidFrame.{SolidFrame}

-- the box lies in the frame's cover, and is no wider and no higher than the frame says
pub record IsInFrame (f : BoxFrame) (b : Rectangle) : Type 0 where
  pub x_in_order : b.x1 ≤ℤ b.x2
  pub y_in_order : b.y1 ≤ℤ b.y2
  pub x_from : f.cover.x1 ≤ℤ b.x1
  pub x_to : b.x2 ≤ℤ f.cover.x2
  pub y_from : f.cover.y1 ≤ℤ b.y1
  pub y_to : b.y2 ≤ℤ f.cover.y2
  pub narrow : unsigned_abs (b.x2 -ℤ b.x1) ≤ f.width
  pub low : unsigned_abs (b.y2 -ℤ b.y1) ≤ f.height

-- a part of an axis lies between two numbers, and is no longer than this
pub record IsShort (from to : ℤ) (longest : ℕ) (a : Span) : Type 0 where
  pub in_order : a.lo ≤ℤ a.hi
  pub after : from ≤ℤ a.lo
  pub before : a.hi ≤ℤ to
  pub short : size a ≤ longest

-- the same of a box of space: it is no deeper either
pub record IsInSolidFrame (f : SolidFrame) (b : Solid) : Type 0 where
  pub in_x : IsShort f.cover.x1 f.cover.x2 f.width (along_x b)
  pub in_y : IsShort f.cover.y1 f.cover.y2 f.height (along_y b)
  pub in_z : IsShort f.cover.z1 f.cover.z2 f.depth (along_z b)
