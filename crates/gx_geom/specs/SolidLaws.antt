-- Laws of the tests on boxes of space, for any corners.
use Rattle.std.proofs.Common.{◌≡◌, ◌≤◌, ℤ, ◌≤ℤ◌, ◌-ℤ◌, true, ◌&&◌, FitsSigned, ap, ◌∙◌, arith}
use Rattle.std.specs.Prelude.{unsigned_abs}
use Rattle.std.specs.Int.{w32, int_min, int_max}
use Rattle.std.specs.Cmp.Derive.{both_true}
use Rattle.std.specs.Ordering.{int_cmp, ordering_then}
use Rattle.std.proofs.Math.Nat.{mul-le-mul}
use Rattle.std.proofs.lemmas.Int.{ints, clamps}
use Rattle.std.proofs.lemmas.Map.Lookups.{exact_pairs, exact_signed}
use Rattle.std.specs.declared.cmp.Ordering.TheVariants.{Equal}
use Rattle.gx_geom.specs.BoxLaws.{split_true, at_most_through, lesser_at_most, at_most_greater, greater_fits, lesser_fits}
use Rattle.gx_geom.specs.Spans.{meets, lies_in}
use Rattle.gx_geom.specs.SpanLaws.{ends_in, in_by_ends, ends_meet, meet_by_ends, meets_both_ways, lies_in_itself, lies_in_through}
use Rattle.gx_geom.specs.SpanLaws.{hull_covers_first, hull_covers_second, hull_is_least}
use Rattle.gx_geom.specs.Solids.{Solid, IsSolid, Within, Overlap, along_x, along_y, along_z, union, overlaps, within, volume, solid_cmp, solid_of}

pub within_corners : (a b : Solid) → within a b ≡ true → Within a b
within_corners a b e =
    let first = split_true (lies_in (along_x a) (along_x b)) (lies_in (along_y a) (along_y b) && lies_in (along_z a) (along_z b)) e in
    let others = split_true (lies_in (along_y a) (along_y b)) (lies_in (along_z a) (along_z b)) first.1 in
    record {
      in_x = ends_in (along_x a) (along_x b) first.0;
      in_y = ends_in (along_y a) (along_y b) others.0;
      in_z = ends_in (along_z a) (along_z b) others.1;
    }

pub corners_within : (a b : Solid) → Within a b → within a b ≡ true
corners_within a b w =
    both_true (in_by_ends (along_x a) (along_x b) w.in_x)
    (both_true (in_by_ends (along_y a) (along_y b) w.in_y) (in_by_ends (along_z a) (along_z b) w.in_z))

pub overlap_corners : (a b : Solid) → overlaps a b ≡ true → Overlap a b
overlap_corners a b e =
    let first = split_true (meets (along_x a) (along_x b)) (meets (along_y a) (along_y b) && meets (along_z a) (along_z b)) e in
    let others = split_true (meets (along_y a) (along_y b)) (meets (along_z a) (along_z b)) first.1 in
    record {
      in_x = ends_meet (along_x a) (along_x b) first.0;
      in_y = ends_meet (along_y a) (along_y b) others.0;
      in_z = ends_meet (along_z a) (along_z b) others.1;
    }

pub corners_overlap : (a b : Solid) → Overlap a b → overlaps a b ≡ true
corners_overlap a b o =
    both_true (meet_by_ends (along_x a) (along_x b) o.in_x)
    (both_true (meet_by_ends (along_y a) (along_y b) o.in_y) (meet_by_ends (along_z a) (along_z b) o.in_z))

pub overlaps_both_ways : (a b : Solid) → overlaps a b ≡ overlaps b a
overlaps_both_ways a b =
    ap (λ p. p && (meets (along_y a) (along_y b) && meets (along_z a) (along_z b))) (meets_both_ways (along_x a) (along_x b))
    ∙ ap (λ p. meets (along_x b) (along_x a) && (p && meets (along_z a) (along_z b))) (meets_both_ways (along_y a) (along_y b))
    ∙ ap (λ p. meets (along_x b) (along_x a) && (meets (along_y b) (along_y a) && p)) (meets_both_ways (along_z a) (along_z b))

pub within_itself : (a : Solid) → within a a ≡ true
within_itself a =
    both_true (lies_in_itself (along_x a)) (both_true (lies_in_itself (along_y a)) (lies_in_itself (along_z a)))

pub within_through : (a b c : Solid) → within a b ≡ true → within b c ≡ true → within a c ≡ true
within_through a b c p q =
    let v = within_corners a b p in
    let w = within_corners b c q in
    both_true
    (lies_in_through (along_x a) (along_x b) (along_x c) (in_by_ends (along_x a) (along_x b) v.in_x) (in_by_ends (along_x b) (along_x c) w.in_x))
    (both_true
    (lies_in_through (along_y a) (along_y b) (along_y c) (in_by_ends (along_y a) (along_y b) v.in_y) (in_by_ends (along_y b) (along_y c) w.in_y))
    (lies_in_through (along_z a) (along_z b) (along_z c) (in_by_ends (along_z a) (along_z b) v.in_z) (in_by_ends (along_z b) (along_z c) w.in_z)))

pub same_corners : (a b : Solid) → solid_cmp a b ≡ Equal → a ≡ b
same_corners a b e =
    ap (λ (p : ℤ × (ℤ × (ℤ × (ℤ × (ℤ × ℤ))))). solid_of p.0 p.1.0 p.1.1.0 p.1.1.1.0 p.1.1.1.1.0 p.1.1.1.1.1)
    (exact_pairs int_cmp (λ p q. ordering_then (int_cmp p.0 q.0) (ordering_then (int_cmp p.1.0 q.1.0)
    (ordering_then (int_cmp p.1.1.0 q.1.1.0) (ordering_then (int_cmp p.1.1.1.0 q.1.1.1.0) (int_cmp p.1.1.1.1 q.1.1.1.1)))))
    exact_signed
    (exact_pairs int_cmp (λ p q. ordering_then (int_cmp p.0 q.0) (ordering_then (int_cmp p.1.0 q.1.0)
    (ordering_then (int_cmp p.1.1.0 q.1.1.0) (int_cmp p.1.1.1 q.1.1.1))))
    exact_signed
    (exact_pairs int_cmp (λ p q. ordering_then (int_cmp p.0 q.0) (ordering_then (int_cmp p.1.0 q.1.0) (int_cmp p.1.1 q.1.1)))
    exact_signed
    (exact_pairs int_cmp (λ p q. ordering_then (int_cmp p.0 q.0) (int_cmp p.1 q.1)) exact_signed
    (exact_pairs int_cmp int_cmp exact_signed exact_signed))))
    (a.x1, (a.y1, (a.z1, (a.x2, (a.y2, a.z2))))) (b.x1, (b.y1, (b.z1, (b.x2, (b.y2, b.z2))))) e)

-- a union covers both, and whatever covers both covers it
pub union_covers_first : (a b : Solid) → within a (union a b) ≡ true
union_covers_first a b =
    both_true (hull_covers_first (along_x a) (along_x b))
    (both_true (hull_covers_first (along_y a) (along_y b)) (hull_covers_first (along_z a) (along_z b)))

pub union_covers_second : (a b : Solid) → within b (union a b) ≡ true
union_covers_second a b =
    both_true (hull_covers_second (along_x a) (along_x b))
    (both_true (hull_covers_second (along_y a) (along_y b)) (hull_covers_second (along_z a) (along_z b)))

pub union_is_least : (a b c : Solid) → within a c ≡ true → within b c ≡ true → within (union a b) c ≡ true
union_is_least a b c p q =
    let first = within_corners a c p in
    let second = within_corners b c q in
    both_true
    (hull_is_least (along_x a) (along_x b) (along_x c) (in_by_ends (along_x a) (along_x c) first.in_x) (in_by_ends (along_x b) (along_x c) second.in_x))
    (both_true
    (hull_is_least (along_y a) (along_y b) (along_y c) (in_by_ends (along_y a) (along_y c) first.in_y) (in_by_ends (along_y b) (along_y c) second.in_y))
    (hull_is_least (along_z a) (along_z b) (along_z c) (in_by_ends (along_z a) (along_z c) first.in_z) (in_by_ends (along_z b) (along_z c) second.in_z)))

-- the ends of the least stretch round two are in order
in_order : (low high low' high' : ℤ) → low ≤ℤ high → int_min low low' ≤ℤ int_max high high'
in_order low high low' high' ordered =
    at_most_through (int_min low low') low (int_max high high') (lesser_at_most low low').0
    (at_most_through low high (int_max high high') ordered (at_most_greater high high').0)

-- the corners of a union make a box
pub union_is_solid : (a b : Solid) → IsSolid a → IsSolid b → IsSolid (union a b)
union_is_solid a b in_a in_b = record {
  x_in_order = in_order a.x1 a.x2 b.x1 b.x2 in_a.x_in_order;
  y_in_order = in_order a.y1 a.y2 b.y1 b.y2 in_a.y_in_order;
  z_in_order = in_order a.z1 a.z2 b.z1 b.z2 in_a.z_in_order;
  x1_fits = lesser_fits a.x1 b.x1 in_a.x1_fits in_b.x1_fits;
  y1_fits = lesser_fits a.y1 b.y1 in_a.y1_fits in_b.y1_fits;
  z1_fits = lesser_fits a.z1 b.z1 in_a.z1_fits in_b.z1_fits;
  x2_fits = greater_fits a.x2 b.x2 in_a.x2_fits in_b.x2_fits;
  y2_fits = greater_fits a.y2 b.y2 in_a.y2_fits in_b.y2_fits;
  z2_fits = greater_fits a.z2 b.z2 in_a.z2_fits in_b.z2_fits;
}

side_at_most : (low high : ℤ) → low ≤ℤ high → FitsSigned w32 low → FitsSigned w32 high → unsigned_abs (high -ℤ low) ≤ 4294967295
side_at_most low high ordered low_fits high_fits = omega (arith, ints)

side_grows : (low high low' high' : ℤ) → low ≤ℤ high → unsigned_abs (high -ℤ low) ≤ unsigned_abs (int_max high high' -ℤ int_min low low')
side_grows low high low' high' ordered = omega (arith, ints, clamps)

-- no box has a greater volume than the greatest
pub volume_at_most : (a : Solid) → IsSolid a → volume a ≤ 79228162458924105385300197375
volume_at_most a b =
    mul-le-mul (mul-le-mul (side_at_most a.x1 a.x2 b.x_in_order b.x1_fits b.x2_fits) (side_at_most a.y1 a.y2 b.y_in_order b.y1_fits b.y2_fits))
    (side_at_most a.z1 a.z2 b.z_in_order b.z1_fits b.z2_fits)

-- a union is no smaller
pub volume_grows : (a b : Solid) → IsSolid a → volume a ≤ volume (union a b)
volume_grows a b is =
    mul-le-mul (mul-le-mul (side_grows a.x1 a.x2 b.x1 b.x2 is.x_in_order) (side_grows a.y1 a.y2 b.y1 b.y2 is.y_in_order))
    (side_grows a.z1 a.z2 b.z1 b.z2 is.z_in_order)
