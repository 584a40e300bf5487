use Rattle.std.specs.Int.{int_max}
use Rattle.std.specs.Int.Signed.{≤ℤ_refl}
use Rattle.gx_geom.specs.BoxLaws.{at_most_greater, greater_at_most, at_most_through}
use Rattle.gx_geom.specs.Spans.{Span, IsInterval, Meet, LieIn, ShareNumber, HasEachOf}
use Rattle.gx_geom.proofs.laws.intervals_as_numbers.Goals as goal

-- the number where both have begun
shared : (a b : Span) → IsInterval a → IsInterval b → Meet a b → ShareNumber a b
shared a b in_a in_b m = (
  int_max a.lo b.lo,
  record { from_lo = (at_most_greater a.lo b.lo).0; to_hi = greater_at_most a.lo b.lo a.hi in_a.in_order m.right },
  record { from_lo = (at_most_greater a.lo b.lo).1; to_hi = greater_at_most a.lo b.lo b.hi m.left in_b.in_order },
)

meeting : (a b : Span) → ShareNumber a b → Meet a b
meeting a b p = record { left = at_most_through a.lo p.0 b.hi p.1.from_lo p.2.to_hi; right = at_most_through b.lo p.0 a.hi p.2.from_lo p.1.to_hi }

each_number : (a b : Span) → LieIn a b → HasEachOf b a
each_number a b l n p = record { from_lo = at_most_through b.lo a.lo n l.from p.from_lo; to_hi = at_most_through n a.hi b.hi p.to_hi l.to }

lies_by_each : (a b : Span) → IsInterval a → HasEachOf b a → LieIn a b
lies_by_each a b in_a each = record {
  from = (each a.lo (record { from_lo = ≤ℤ_refl a.lo; to_hi = in_a.in_order })).from_lo;
  to = (each a.hi (record { from_lo = in_a.in_order; to_hi = ≤ℤ_refl a.hi })).to_hi;
}

pub returns : goal.returns
returns c = record {
  overlap = λ a b in_a in_b. (shared a b in_a in_b, meeting a b);
  within = λ a b in_a. (each_number a b, lies_by_each a b in_a);
}
