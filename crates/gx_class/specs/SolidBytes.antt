-- Twenty-four bytes as corners, which are a box of space if none is reversed.
use Rattle.std.proofs.Common.{◌≡◌, ℕ, ◌<◌, true, ◌&&◌, ◌==◌, refl, List, length, Some}
use Rattle.std.specs.Prelude.{slice_index, int_le}
use Rattle.std.proofs.lemmas.Bool.{and_from, eq-eqb}
use Rattle.gx_geom.specs.Solids.{Solid, IsSolid}
use Rattle.gx_geom.specs.BoxLaws.{tests_at_most}
use Rattle.gx_class.specs.BoxReadings.{chosen}
use Rattle.gx_class.specs.SolidKeys.{spelling, corners_of, in_order, reading}
use Rattle.gx_class.specs.SolidReadings.{reading_only}

pub solid_in_order : (b : Solid) → IsSolid b → in_order b ≡ true
solid_in_order b is =
    and_from (int_le b.x1 b.x2) (int_le b.y1 b.y2 && int_le b.z1 b.z2) (tests_at_most b.x1 b.x2 is.x_in_order)
    (and_from (int_le b.y1 b.y2) (int_le b.z1 b.z2) (tests_at_most b.y1 b.y2 is.y_in_order) (tests_at_most b.z1 b.z2 is.z_in_order))

reads : (bytes : List ℕ) → length bytes ≡ 24 → in_order (corners_of bytes) ≡ true → reading bytes ≡ Some (corners_of bytes)
unfolding reading
reads bytes long is =
    chosen ((length bytes == 24) && in_order (corners_of bytes)) (corners_of bytes) (corners_of bytes)
    (and_from (length bytes == 24) (in_order (corners_of bytes)) (eq-eqb (length bytes) 24 long) is) refl

pub solid_only : (bytes : List ℕ) → length bytes ≡ 24 → ((i : ℕ) → slice_index bytes i < 256) → in_order (corners_of bytes) ≡ true
    → IsSolid (corners_of bytes) × (bytes ≡ spelling (corners_of bytes))
solid_only bytes long small is = reading_only bytes (corners_of bytes) small (reads bytes long is)
