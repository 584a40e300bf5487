-- Laws of the tests on boxes, for any corners.
use Rattle.std.proofs.Common.{◌≡◌, ℤ, ◌≤ℤ◌, Bool, true, false, ◌&&◌, refl, ap, ◌∙◌, arith, T}
use Rattle.std.specs.Prelude.{int_le, int_lt, cond, FitsSigned}
use Rattle.std.specs.Int.{w32, int_min, int_max}
use Rattle.std.specs.Int.Signed.{le_z_yes, ≤ℤ_refl}
use Rattle.std.specs.Ordering.{int_cmp, ordering_then}
use Rattle.std.specs.Cmp.Derive.{both_true}
use Rattle.std.proofs.Math.Bool.{and_comm}
use Rattle.std.proofs.lemmas.Int.{ints, clamps}
use Rattle.std.proofs.lemmas.Map.Lookups.{exact_pairs, exact_signed}
use Rattle.std.specs.declared.cmp.Ordering.TheVariants.{Equal}
use Rattle.gx_geom.specs.Rectangles.{Rectangle, IsBox, Within, Overlap, union, overlaps, within, rectangle_cmp}

pub split_true : (p q : Bool) → (p && q) ≡ true → (p ≡ true) × (q ≡ true)
split_true true q e = (refl, e)
split_true false q e = cc

true_holds : (b : Bool) → b ≡ true → T b
true_holds true e = tt
true_holds false e = cc

holds_true : (b : Bool) → T b → b ≡ true
holds_true true t = refl
holds_true false t = absurd t

pub at_most : (a b : ℤ) → int_le a b ≡ true → a ≤ℤ b
at_most a b e = le_z_yes (true_holds (int_le a b) e)

pub tests_at_most : (a b : ℤ) → a ≤ℤ b → int_le a b ≡ true
tests_at_most a b h = holds_true (int_le a b) h.le

pub within_corners : (a b : Rectangle) → within a b ≡ true → Within a b
within_corners a b e =
    let halves = split_true (int_le b.x1 a.x1 && int_le a.x2 b.x2) (int_le b.y1 a.y1 && int_le a.y2 b.y2) e in
    let in_x = split_true (int_le b.x1 a.x1) (int_le a.x2 b.x2) halves.0 in
    let in_y = split_true (int_le b.y1 a.y1) (int_le a.y2 b.y2) halves.1 in
    record {
      x_from = at_most b.x1 a.x1 in_x.0;
      x_to = at_most a.x2 b.x2 in_x.1;
      y_from = at_most b.y1 a.y1 in_y.0;
      y_to = at_most a.y2 b.y2 in_y.1;
    }

pub corners_within : (a b : Rectangle) → Within a b → within a b ≡ true
corners_within a b w =
    both_true (both_true (tests_at_most b.x1 a.x1 w.x_from) (tests_at_most a.x2 b.x2 w.x_to))
    (both_true (tests_at_most b.y1 a.y1 w.y_from) (tests_at_most a.y2 b.y2 w.y_to))

pub overlap_corners : (a b : Rectangle) → overlaps a b ≡ true → Overlap a b
overlap_corners a b e =
    let halves = split_true (int_le a.x1 b.x2 && int_le b.x1 a.x2) (int_le a.y1 b.y2 && int_le b.y1 a.y2) e in
    let in_x = split_true (int_le a.x1 b.x2) (int_le b.x1 a.x2) halves.0 in
    let in_y = split_true (int_le a.y1 b.y2) (int_le b.y1 a.y2) halves.1 in
    record {
      x_left = at_most a.x1 b.x2 in_x.0;
      x_right = at_most b.x1 a.x2 in_x.1;
      y_left = at_most a.y1 b.y2 in_y.0;
      y_right = at_most b.y1 a.y2 in_y.1;
    }

pub corners_overlap : (a b : Rectangle) → Overlap a b → overlaps a b ≡ true
corners_overlap a b o =
    both_true (both_true (tests_at_most a.x1 b.x2 o.x_left) (tests_at_most b.x1 a.x2 o.x_right))
    (both_true (tests_at_most a.y1 b.y2 o.y_left) (tests_at_most b.y1 a.y2 o.y_right))

pub overlaps_both_ways : (a b : Rectangle) → overlaps a b ≡ overlaps b a
overlaps_both_ways a b =
    ap (λ (p : Bool). p && (int_le a.y1 b.y2 && int_le b.y1 a.y2)) (and_comm (int_le a.x1 b.x2) (int_le b.x1 a.x2))
    ∙ ap (λ (p : Bool). (int_le b.x1 a.x2 && int_le a.x1 b.x2) && p) (and_comm (int_le a.y1 b.y2) (int_le b.y1 a.y2))

pub within_itself : (a : Rectangle) → within a a ≡ true
within_itself a =
    corners_within a a (record { x_from = ≤ℤ_refl a.x1; x_to = ≤ℤ_refl a.x2; y_from = ≤ℤ_refl a.y1; y_to = ≤ℤ_refl a.y2 })

pub within_through : (a b c : Rectangle) → within a b ≡ true → within b c ≡ true → within a c ≡ true
within_through a b c p q =
    let v = within_corners a b p in
    let w = within_corners b c q in
    corners_within a c (record {
      x_from = omega (arith, ints);
      x_to = omega (arith, ints);
      y_from = omega (arith, ints);
      y_to = omega (arith, ints);
    })

pub same_corners : (a b : Rectangle) → rectangle_cmp a b ≡ Equal → a ≡ b
same_corners a b e =
    ap (λ (p : ℤ × (ℤ × (ℤ × ℤ))). record { x1 = p.0; y1 = p.1.0; x2 = p.1.1.0; y2 = p.1.1.1 })
    (exact_pairs int_cmp (λ p q. ordering_then (int_cmp p.0 q.0) (ordering_then (int_cmp p.1.0 q.1.0) (int_cmp p.1.1 q.1.1)))
    exact_signed
    (exact_pairs int_cmp (λ p q. ordering_then (int_cmp p.0 q.0) (int_cmp p.1 q.1)) exact_signed (exact_pairs int_cmp int_cmp exact_signed exact_signed))
    (a.x1, (a.y1, (a.x2, a.y2))) (b.x1, (b.y1, (b.x2, b.y2))) e)

-- the lesser and the greater of two numbers
pub lesser_at_most : (a b : ℤ) → (int_min a b ≤ℤ a) × (int_min a b ≤ℤ b)
lesser_at_most a b = (omega (arith, ints, clamps), omega (arith, ints, clamps))

pub at_most_greater : (a b : ℤ) → (a ≤ℤ int_max a b) × (b ≤ℤ int_max a b)
at_most_greater a b = (omega (arith, ints, clamps), omega (arith, ints, clamps))

pub at_most_lesser : (a b c : ℤ) → c ≤ℤ a → c ≤ℤ b → c ≤ℤ int_min a b
at_most_lesser a b c p q = omega (arith, ints, clamps)

pub greater_at_most : (a b c : ℤ) → a ≤ℤ c → b ≤ℤ c → int_max a b ≤ℤ c
greater_at_most a b c p q = omega (arith, ints, clamps)

-- either of two numbers, by a test, has what both have
pub one_of : (P : ℤ → Type 0) (t : Bool) (a b : ℤ) → P a → P b → P (cond t a b)
one_of P true a b p q = p
one_of P false a b p q = q

pub greater_fits : (a b : ℤ) → FitsSigned w32 a → FitsSigned w32 b → FitsSigned w32 (int_max a b)
greater_fits a b p q = one_of (λ z. FitsSigned w32 z) (int_lt b a) a b p q

pub lesser_fits : (a b : ℤ) → FitsSigned w32 a → FitsSigned w32 b → FitsSigned w32 (int_min a b)
lesser_fits a b p q = one_of (λ z. FitsSigned w32 z) (int_lt b a) b a q p

pub at_most_through : (a b c : ℤ) → a ≤ℤ b → b ≤ℤ c → a ≤ℤ c
at_most_through a b c p q = omega (arith, ints)

-- the corners of a union make a box
pub union_is_box : (a b : Rectangle) → IsBox a → IsBox b → IsBox (union a b)
union_is_box a b in_a in_b = record {
  x_in_order = at_most_through (int_min a.x1 b.x1) a.x1 (int_max a.x2 b.x2) (lesser_at_most a.x1 b.x1).0
      (at_most_through a.x1 a.x2 (int_max a.x2 b.x2) in_a.x_in_order (at_most_greater a.x2 b.x2).0);
  y_in_order = at_most_through (int_min a.y1 b.y1) a.y1 (int_max a.y2 b.y2) (lesser_at_most a.y1 b.y1).0
      (at_most_through a.y1 a.y2 (int_max a.y2 b.y2) in_a.y_in_order (at_most_greater a.y2 b.y2).0);
  x1_fits = lesser_fits a.x1 b.x1 in_a.x1_fits in_b.x1_fits;
  y1_fits = lesser_fits a.y1 b.y1 in_a.y1_fits in_b.y1_fits;
  x2_fits = greater_fits a.x2 b.x2 in_a.x2_fits in_b.x2_fits;
  y2_fits = greater_fits a.y2 b.y2 in_a.y2_fits in_b.y2_fits;
}
