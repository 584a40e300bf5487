-- A box of space as a set of points.
use Rattle.std.specs.Prelude.{ℤ}
use Rattle.gx_geom.specs.Spans.{HasNumber}
use Rattle.gx_geom.specs.Solids.{Solid, along_x, along_y, along_z}

-- the point (x, y, z) is in the box, its faces included
pub record HasPoint (b : Solid) (x y z : ℤ) : Type 0 where
  pub in_x : HasNumber (along_x b) x
  pub in_y : HasNumber (along_y b) y
  pub in_z : HasNumber (along_z b) z

-- some point is in both
abbrev pub SharePoint : Solid → Solid → Type 0
SharePoint a b = (x : ℤ) × (y : ℤ) × (z : ℤ) × HasPoint a x y z × HasPoint b x y z

-- each point of a is in b
abbrev pub IsSubset : Solid → Solid → Type 0
IsSubset a b = (x y z : ℤ) → HasPoint a x y z → HasPoint b x y z
