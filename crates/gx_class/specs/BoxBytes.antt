-- Sixteen bytes as corners, which are a box's if none is reversed.
use Rattle.std.proofs.Common.{◌≡◌, ℕ, ◌<◌, true, ◌&&◌, ◌==◌, refl, List, length, Some}
use Rattle.std.specs.Prelude.{slice_index, int_le}
use Rattle.std.proofs.lemmas.Bool.{and_from, eq-eqb}
use Rattle.gx_geom.specs.Rectangles.{Rectangle, IsBox}
use Rattle.gx_geom.specs.BoxLaws.{tests_at_most}
use Rattle.gx_class.specs.Boxes.{spelling, corners_of, in_order, reading}
use Rattle.gx_class.specs.BoxReadings.{chosen, reading_only}

pub box_in_order : (b : Rectangle) → IsBox b → in_order b ≡ true
box_in_order b is = and_from (int_le b.x1 b.x2) (int_le b.y1 b.y2) (tests_at_most b.x1 b.x2 is.x_in_order) (tests_at_most b.y1 b.y2 is.y_in_order)

reads : (bytes : List ℕ) → length bytes ≡ 16 → in_order (corners_of bytes) ≡ true → reading bytes ≡ Some (corners_of bytes)
unfolding reading
reads bytes long is =
    chosen ((length bytes == 16) && in_order (corners_of bytes)) (corners_of bytes) (corners_of bytes)
    (and_from (length bytes == 16) (in_order (corners_of bytes)) (eq-eqb (length bytes) 16 long) is) refl

pub box_only : (bytes : List ℕ) → length bytes ≡ 16 → ((i : ℕ) → slice_index bytes i < 256) → in_order (corners_of bytes) ≡ true → IsBox (corners_of bytes) × (bytes ≡ spelling (corners_of bytes))
box_only bytes long small is = reading_only bytes (corners_of bytes) small (reads bytes long is)
