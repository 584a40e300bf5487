-- Laws of the tests on intervals, for any ends.
use Rattle.std.proofs.Common.{◌≡◌, ℤ, true, ap}
use Rattle.std.specs.Prelude.{int_le, int_lt, FitsSigned}
use Rattle.std.specs.Int.{w64, int_min, int_max}
use Rattle.std.specs.Int.Signed.{≤ℤ_refl}
use Rattle.std.specs.Ordering.{int_cmp}
use Rattle.std.specs.Cmp.Derive.{both_true}
use Rattle.std.proofs.Math.Bool.{and_comm}
use Rattle.std.proofs.lemmas.Map.Lookups.{exact_pairs, exact_signed}
use Rattle.std.specs.declared.cmp.Ordering.TheVariants.{Equal}
use Rattle.gx_geom.specs.BoxLaws.{split_true, at_most, tests_at_most, at_most_through, lesser_at_most, at_most_greater, at_most_lesser, greater_at_most, one_of}
use Rattle.gx_geom.specs.Spans.{Span, IsInterval, Meet, LieIn, meets, lies_in, hull, span_cmp, span_of}

pub ends_in : (a b : Span) → lies_in a b ≡ true → LieIn a b
ends_in a b e =
    let both = split_true (int_le b.lo a.lo) (int_le a.hi b.hi) e in
    record { from = at_most b.lo a.lo both.0; to = at_most a.hi b.hi both.1 }

pub in_by_ends : (a b : Span) → LieIn a b → lies_in a b ≡ true
in_by_ends a b l = both_true (tests_at_most b.lo a.lo l.from) (tests_at_most a.hi b.hi l.to)

pub ends_meet : (a b : Span) → meets a b ≡ true → Meet a b
ends_meet a b e =
    let both = split_true (int_le a.lo b.hi) (int_le b.lo a.hi) e in
    record { left = at_most a.lo b.hi both.0; right = at_most b.lo a.hi both.1 }

pub meet_by_ends : (a b : Span) → Meet a b → meets a b ≡ true
meet_by_ends a b m = both_true (tests_at_most a.lo b.hi m.left) (tests_at_most b.lo a.hi m.right)

pub meets_both_ways : (a b : Span) → meets a b ≡ meets b a
meets_both_ways a b = and_comm (int_le a.lo b.hi) (int_le b.lo a.hi)

pub lies_in_itself : (a : Span) → lies_in a a ≡ true
lies_in_itself a = in_by_ends a a (record { from = ≤ℤ_refl a.lo; to = ≤ℤ_refl a.hi })

pub lies_in_through : (a b c : Span) → lies_in a b ≡ true → lies_in b c ≡ true → lies_in a c ≡ true
lies_in_through a b c p q =
    let v = ends_in a b p in
    let w = ends_in b c q in
    in_by_ends a c (record { from = at_most_through c.lo b.lo a.lo w.from v.from; to = at_most_through a.hi b.hi c.hi v.to w.to })

pub same_ends : (a b : Span) → span_cmp a b ≡ Equal → a ≡ b
same_ends a b e =
    ap (λ (p : ℤ × ℤ). span_of p.0 p.1) (exact_pairs int_cmp int_cmp exact_signed exact_signed (a.lo, a.hi) (b.lo, b.hi) e)

pub hull_covers_first : (a b : Span) → lies_in a (hull a b) ≡ true
hull_covers_first a b = in_by_ends a (hull a b) (record { from = (lesser_at_most a.lo b.lo).0; to = (at_most_greater a.hi b.hi).0 })

pub hull_covers_second : (a b : Span) → lies_in b (hull a b) ≡ true
hull_covers_second a b = in_by_ends b (hull a b) (record { from = (lesser_at_most a.lo b.lo).1; to = (at_most_greater a.hi b.hi).1 })

pub hull_is_least : (a b c : Span) → lies_in a c ≡ true → lies_in b c ≡ true → lies_in (hull a b) c ≡ true
hull_is_least a b c p q =
    let first = ends_in a c p in
    let second = ends_in b c q in
    in_by_ends (hull a b) c (record {
      from = at_most_lesser a.lo b.lo c.lo first.from second.from;
      to = greater_at_most a.hi b.hi c.hi first.to second.to;
    })

pub hull_is_interval : (a b : Span) → IsInterval a → IsInterval b → IsInterval (hull a b)
hull_is_interval a b in_a in_b = record {
  in_order = at_most_through (int_min a.lo b.lo) a.lo (int_max a.hi b.hi) (lesser_at_most a.lo b.lo).0
      (at_most_through a.lo a.hi (int_max a.hi b.hi) in_a.in_order (at_most_greater a.hi b.hi).0);
  lo_fits = one_of (λ z. FitsSigned w64 z) (int_lt b.lo a.lo) b.lo a.lo in_b.lo_fits in_a.lo_fits;
  hi_fits = one_of (λ z. FitsSigned w64 z) (int_lt b.hi a.hi) a.hi b.hi in_a.hi_fits in_b.hi_fits;
}
