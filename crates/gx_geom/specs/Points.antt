-- A box as a set of points of the plane.
use Rattle.std.specs.Prelude.{ℤ, ◌≤ℤ◌}
use Rattle.gx_geom.specs.Rectangles.{Rectangle}

-- the point (x, y) is in the box, its edge included
pub record HasPoint (b : Rectangle) (x y : ℤ) : Type 0 where
  pub from_x1 : b.x1 ≤ℤ x
  pub to_x2 : x ≤ℤ b.x2
  pub from_y1 : b.y1 ≤ℤ y
  pub to_y2 : y ≤ℤ b.y2

-- some point is in both
abbrev pub SharePoint : Rectangle → Rectangle → Type 0
SharePoint a b = (x : ℤ) × (y : ℤ) × HasPoint a x y × HasPoint b x y

-- each point of a is in b
abbrev pub IsSubset : Rectangle → Rectangle → Type 0
IsSubset a b = (x y : ℤ) → HasPoint a x y → HasPoint b x y
