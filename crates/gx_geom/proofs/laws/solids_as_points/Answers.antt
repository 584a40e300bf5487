use Rattle.std.proofs.Common.{ℤ, ◌≤ℤ◌}
use Rattle.std.specs.Int.{int_max}
use Rattle.std.specs.Int.Signed.{≤ℤ_refl}
use Rattle.gx_geom.specs.BoxLaws.{at_most_greater, greater_at_most, at_most_through}
use Rattle.gx_geom.specs.Spans.{Span, Meet, LieIn, HasNumber}
use Rattle.gx_geom.specs.Solids.{Solid, IsSolid, Overlap, Within, along_x, along_y, along_z}
use Rattle.gx_geom.specs.SolidPoints.{SharePoint, IsSubset}
use Rattle.gx_geom.proofs.laws.solids_as_points.Goals as goal

-- the number where both have begun
begun : (a b : Span) → a.lo ≤ℤ a.hi → b.lo ≤ℤ b.hi → Meet a b → HasNumber a (int_max a.lo b.lo) × HasNumber b (int_max a.lo b.lo)
begun a b in_a in_b m = (
  record { from_lo = (at_most_greater a.lo b.lo).0; to_hi = greater_at_most a.lo b.lo a.hi in_a m.right },
  record { from_lo = (at_most_greater a.lo b.lo).1; to_hi = greater_at_most a.lo b.lo b.hi m.left in_b },
)

shared : (a b : Solid) → IsSolid a → IsSolid b → Overlap a b → SharePoint a b
shared a b in_a in_b o =
    let x = begun (along_x a) (along_x b) in_a.x_in_order in_b.x_in_order o.in_x in
    let y = begun (along_y a) (along_y b) in_a.y_in_order in_b.y_in_order o.in_y in
    let z = begun (along_z a) (along_z b) in_a.z_in_order in_b.z_in_order o.in_z in (
      int_max a.x1 b.x1,
      int_max a.y1 b.y1,
      int_max a.z1 b.z1,
      record { in_x = x.0; in_y = y.0; in_z = z.0 },
      record { in_x = x.1; in_y = y.1; in_z = z.1 },
    )

meeting : (a b : Span) (n : ℤ) → HasNumber a n → HasNumber b n → Meet a b
meeting a b n p q = record { left = at_most_through a.lo n b.hi p.from_lo q.to_hi; right = at_most_through b.lo n a.hi q.from_lo p.to_hi }

overlapping : (a b : Solid) → SharePoint a b → Overlap a b
overlapping a b p = record {
  in_x = meeting (along_x a) (along_x b) p.0 p.3.in_x p.4.in_x;
  in_y = meeting (along_y a) (along_y b) p.1 p.3.in_y p.4.in_y;
  in_z = meeting (along_z a) (along_z b) p.2 p.3.in_z p.4.in_z;
}

carried : (a b : Span) (n : ℤ) → LieIn a b → HasNumber a n → HasNumber b n
carried a b n l p = record { from_lo = at_most_through b.lo a.lo n l.from p.from_lo; to_hi = at_most_through n a.hi b.hi p.to_hi l.to }

each_point : (a b : Solid) → Within a b → IsSubset a b
each_point a b w x y z p = record {
  in_x = carried (along_x a) (along_x b) x w.in_x p.in_x;
  in_y = carried (along_y a) (along_y b) y w.in_y p.in_y;
  in_z = carried (along_z a) (along_z b) z w.in_z p.in_z;
}

least : (a : Span) → a.lo ≤ℤ a.hi → HasNumber a a.lo
least a in_order = record { from_lo = ≤ℤ_refl a.lo; to_hi = in_order }

greatest : (a : Span) → a.lo ≤ℤ a.hi → HasNumber a a.hi
greatest a in_order = record { from_lo = in_order; to_hi = ≤ℤ_refl a.hi }

-- the two corners are points of the box
within_of : (a b : Solid) → IsSolid a → IsSubset a b → Within a b
within_of a b is each =
    let low = each a.x1 a.y1 a.z1 (record {
      in_x = least (along_x a) is.x_in_order;
      in_y = least (along_y a) is.y_in_order;
      in_z = least (along_z a) is.z_in_order;
    }) in
    let high = each a.x2 a.y2 a.z2 (record {
      in_x = greatest (along_x a) is.x_in_order;
      in_y = greatest (along_y a) is.y_in_order;
      in_z = greatest (along_z a) is.z_in_order;
    }) in
    record {
      in_x = record { from = low.in_x.from_lo; to = high.in_x.to_hi };
      in_y = record { from = low.in_y.from_lo; to = high.in_y.to_hi };
      in_z = record { from = low.in_z.from_lo; to = high.in_z.to_hi };
    }

pub returns : goal.returns
returns c = record {
  overlap = λ a b in_a in_b. (shared a b in_a in_b, overlapping a b);
  within = λ a b in_a. (each_point a b, within_of a b in_a);
}
