use Rattle.std.proofs.Common.{arith}
use Rattle.std.proofs.lemmas.Int.{ints}
use Rattle.std.specs.Int.Signed.{≤ℤ_refl}
use Rattle.gx_geom.specs.Rectangles.{Rectangle, IsBox, Within}
use Rattle.gx_geom.specs.Points.{IsSubset}
use Rattle.gx_geom.proofs.laws.within_is_each_point.Goals as goal

each_point : (a b : Rectangle) → Within a b → IsSubset a b
each_point a b w x y p = record {
  from_x1 = omega (arith, ints);
  to_x2 = omega (arith, ints);
  from_y1 = omega (arith, ints);
  to_y2 = omega (arith, ints);
}

-- the two corners are points of the box
within_of : (a b : Rectangle) → IsBox a → IsSubset a b → Within a b
within_of a b in_a each =
    let low = each a.x1 a.y1 (record { from_x1 = ≤ℤ_refl a.x1; to_x2 = in_a.x_in_order; from_y1 = ≤ℤ_refl a.y1; to_y2 = in_a.y_in_order }) in
    let high = each a.x2 a.y2 (record { from_x1 = in_a.x_in_order; to_x2 = ≤ℤ_refl a.x2; from_y1 = in_a.y_in_order; to_y2 = ≤ℤ_refl a.y2 }) in
    record { x_from = low.from_x1; x_to = high.to_x2; y_from = low.from_y1; y_to = high.to_y2 }

pub returns : goal.returns
returns c = λ a b in_a. (each_point a b, within_of a b in_a)
