use Rattle.std.proofs.Common.{arith}
use Rattle.std.specs.Int.{int_max}
use Rattle.std.proofs.lemmas.Int.{ints}
use Rattle.gx_geom.specs.BoxLaws.{at_most_greater, greater_at_most}
use Rattle.gx_geom.specs.Rectangles.{Rectangle, IsBox, Overlap}
use Rattle.gx_geom.specs.Points.{SharePoint}
use Rattle.gx_geom.proofs.laws.overlap_is_a_shared_point.Goals as goal

-- the point where both boxes have begun on each axis
shared : (a b : Rectangle) → IsBox a → IsBox b → Overlap a b → SharePoint a b
shared a b in_a in_b o = (
  int_max a.x1 b.x1,
  int_max a.y1 b.y1,
  record {
    from_x1 = (at_most_greater a.x1 b.x1).0;
    to_x2 = greater_at_most a.x1 b.x1 a.x2 in_a.x_in_order o.x_right;
    from_y1 = (at_most_greater a.y1 b.y1).0;
    to_y2 = greater_at_most a.y1 b.y1 a.y2 in_a.y_in_order o.y_right;
  },
  record {
    from_x1 = (at_most_greater a.x1 b.x1).1;
    to_x2 = greater_at_most a.x1 b.x1 b.x2 o.x_left in_b.x_in_order;
    from_y1 = (at_most_greater a.y1 b.y1).1;
    to_y2 = greater_at_most a.y1 b.y1 b.y2 o.y_left in_b.y_in_order;
  },
)

overlapping : (a b : Rectangle) → SharePoint a b → Overlap a b
overlapping a b p =
    let in_a = p.2 in
    let in_b = p.3 in
    record { x_left = omega (arith, ints); x_right = omega (arith, ints); y_left = omega (arith, ints); y_right = omega (arith, ints) }

pub returns : goal.returns
returns c = λ a b in_a in_b. (shared a b in_a in_b, overlapping a b)
