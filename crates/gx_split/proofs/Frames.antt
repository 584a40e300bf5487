-- What bounds the unions with some boxes.
use Rattle.std.proofs.Common.{◌≡◌, ℕ, ◌≤◌, ℤ, ◌≤ℤ◌, ◌-ℤ◌, true, refl, arith}
use Rattle.std.specs.Prelude.{int_lt, unsigned_abs}
use Rattle.std.specs.Int.{int_min, int_max}
use Rattle.std.proofs.lemmas.Int.{ints, clamps}
use Rattle.gx_geom.specs.Rectangles.{Rectangle, union, within}
use Rattle.gx_geom.specs.BoxLaws.{one_of, within_corners}
use Rattle.gx_geom.specs.Solids as solids
use Rattle.gx_geom.specs.Solids.{Solid}
use Rattle.gx_geom.specs.SolidLaws as solid

lesser_stays : (a b : ℤ) → a ≤ℤ b → int_min a b ≡ a
lesser_stays a b h = omega (arith, ints, clamps)

greater_stays : (a b : ℤ) → b ≤ℤ a → int_max a b ≡ a
greater_stays a b h = omega (arith, ints, clamps)

-- a box that covers another is the union of the two
pub union_of_covered : (a b : Rectangle) → within b a ≡ true → union a b ≡ a
union_of_covered a b e =
    let w = within_corners b a e in
    rw (lesser_stays a.x1 b.x1 w.x_from, lesser_stays a.y1 b.y1 w.y_from, greater_stays a.x2 b.x2 w.x_to, greater_stays a.y2 b.y2 w.y_to) refl

-- so it is in space
pub union_of_covered_solid : (a b : Solid) → solids.within b a ≡ true → solids.union a b ≡ a
union_of_covered_solid a b e =
    let w = solid.within_corners b a e in
    rw (
      lesser_stays a.x1 b.x1 w.in_x.from,
      lesser_stays a.y1 b.y1 w.in_y.from,
      lesser_stays a.z1 b.z1 w.in_z.from,
      greater_stays a.x2 b.x2 w.in_x.to,
      greater_stays a.y2 b.y2 w.in_y.to,
      greater_stays a.z2 b.z2 w.in_z.to,
    ) refl

-- a side from one of two low ends to one of two high ends
pub side_reached : (low high from to a b : ℤ) (longest : ℕ) → low ≤ℤ high → from ≤ℤ a → a ≤ℤ b → b ≤ℤ to
    → unsigned_abs (b -ℤ a) ≤ longest → unsigned_abs (high -ℤ low) ≤ longest → unsigned_abs (high -ℤ from) ≤ longest → unsigned_abs (to -ℤ low) ≤ longest
    → unsigned_abs (int_max high b -ℤ int_min low a) ≤ longest
side_reached low high from to a b longest in_order after other_in_order before others own to_high to_low =
    let high_to_a : unsigned_abs (high -ℤ a) ≤ longest = omega (arith, ints) in
    let b_to_low : unsigned_abs (b -ℤ low) ≤ longest = omega (arith, ints) in
    one_of (λ z. unsigned_abs (z -ℤ int_min low a) ≤ longest) (int_lt b high) high b
    (one_of (λ z. unsigned_abs (high -ℤ z) ≤ longest) (int_lt a low) a low high_to_a own)
    (one_of (λ z. unsigned_abs (b -ℤ z) ≤ longest) (int_lt a low) a low others b_to_low)
