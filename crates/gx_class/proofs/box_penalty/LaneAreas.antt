-- The lanes of raised corners.
use Rattle.std.proofs.Common.{◌≡◌, ℕ, suc, inl, inr, ◌+◌, ◌-◌, ◌*◌, ◌%◌, ◌<◌, ◌≤◌, ℤ, ◌≤ℤ◌, ◌-ℤ◌, Bool, true, false, cond, refl, ap, sym, ◌∙◌, arith, List, length, [], ◌∷◌, get_or, pos, negsuc, to_z, Fits, FitsSigned}
use Rattle.std.specs.Prelude.{nat_lt, unsigned_abs}
use Rattle.std.specs.Int.{w32, int_min, int_max}
use Rattle.std.proofs.lemmas.Bool.{cases_lt, le-ltb, ltb-true, ltb-false}
use Rattle.std.proofs.lemmas.Int.{ints, clamps, to_z_pos}
use Rattle.std.proofs.Math.Nat.{mul-le-mul}
use Rattle.gx_geom.specs.Rectangles.{Rectangle, IsBox, area, union}
use Rattle.gx_geom.specs.BoxLaws.{union_is_box}
use Rattle.gx_class.specs.Probes.{corners}
use Rattle.gx_class.specs.Raised.{raise, raised, sides_of_two, AreBitsOf}
use mir.Val.{sel}
use lib.Lanes.{Each1, top, zip2}

-- a lane of a comparison
tells : (p : Bool) → top 31 (cond p 4294967295 0) ≡ p
tells true = refl
tells false = refl

lesser_is : (a b : ℤ) → FitsSigned w32 a → FitsSigned w32 b → raise a < raise b → (int_min a b ≡ a) × (int_max a b ≡ b)
lesser_is a b fa fb h = (omega (arith, ints, clamps), omega (arith, ints, clamps))

greater_is : (a b : ℤ) → FitsSigned w32 a → FitsSigned w32 b → raise b ≤ raise a → (int_min a b ≡ b) × (int_max a b ≡ a)
greater_is a b fa fb h = (omega (arith, ints, clamps), omega (arith, ints, clamps))

high_by : (a b : ℤ) → FitsSigned w32 a → FitsSigned w32 b → (t : Bool) → nat_lt (raise a) (raise b) ≡ t → cond t (raise b) (raise a) ≡ raise (int_max a b)
high_by a b fa fb true h = ap raise (sym (lesser_is a b fa fb (ltb-true (raise a) (raise b) h)).1)
high_by a b fa fb false h = ap raise (sym (greater_is a b fa fb (ltb-false (raise a) (raise b) h)).1)

low_by : (a b : ℤ) → FitsSigned w32 a → FitsSigned w32 b → (t : Bool) → nat_lt (raise a) (raise b) ≡ t → cond t (raise a) (raise b) ≡ raise (int_min a b)
low_by a b fa fb true h = ap raise (sym (lesser_is a b fa fb (ltb-true (raise a) (raise b) h)).0)
low_by a b fa fb false h = ap raise (sym (greater_is a b fa fb (ltb-false (raise a) (raise b) h)).0)

high : (a b : ℤ) → FitsSigned w32 a → FitsSigned w32 b → cond (top 31 (cond (nat_lt (raise a) (raise b)) 4294967295 0)) (raise b) (raise a) ≡ raise (int_max a b)
high a b fa fb = ap (λ t. cond t (raise b) (raise a)) (tells (nat_lt (raise a) (raise b))) ∙ high_by a b fa fb (nat_lt (raise a) (raise b)) refl

low : (a b : ℤ) → FitsSigned w32 a → FitsSigned w32 b → cond (top 31 (cond (nat_lt (raise a) (raise b)) 4294967295 0)) (raise a) (raise b) ≡ raise (int_min a b)
low a b fa fb = ap (λ t. cond t (raise a) (raise b)) (tells (nat_lt (raise a) (raise b))) ∙ low_by a b fa fb (nat_lt (raise a) (raise b)) refl

length_is : (low high : ℤ) → FitsSigned w32 low → FitsSigned w32 high → low ≤ℤ high
    → (raise high + (4294967296 - raise low)) % 4294967296 ≡ unsigned_abs (high -ℤ low)
length_is low high fl fh h = omega (arith, ints)

-- the four sides, as the lanes have them
abbrev side_of : ℕ → ℕ → ℕ
side_of from to = (to + (4294967296 - from)) % 4294967296

abbrev higher : ℤ → ℤ → ℕ
higher a b = cond (top 31 (cond (nat_lt (raise a) (raise b)) 4294967295 0)) (raise b) (raise a)

abbrev lower : ℤ → ℤ → ℕ
lower a b = cond (top 31 (cond (nat_lt (raise a) (raise b)) 4294967295 0)) (raise a) (raise b)

pub sides_are : (b k : Rectangle) → IsBox b → IsBox k
    → side_of (lower b.x1 k.x1) (higher b.x2 k.x2) ∷ side_of (lower b.y1 k.y1) (higher b.y2 k.y2) ∷ side_of (raise b.x1) (raise b.x2) ∷ side_of (raise b.y1) (raise b.y2) ∷ []
    ≡ sides_of_two (union b k) b
sides_are b k in_b in_k =
    let both = union_is_box b k in_b in_k in
    rw (
      low b.x1 k.x1 in_b.x1_fits in_k.x1_fits,
      high b.x2 k.x2 in_b.x2_fits in_k.x2_fits,
      low b.y1 k.y1 in_b.y1_fits in_k.y1_fits,
      high b.y2 k.y2 in_b.y2_fits in_k.y2_fits,
      length_is (int_min b.x1 k.x1) (int_max b.x2 k.x2) both.x1_fits both.x2_fits both.x_in_order,
      length_is (int_min b.y1 k.y1) (int_max b.y2 k.y2) both.y1_fits both.y2_fits both.y_in_order,
      length_is b.x1 b.x2 in_b.x1_fits in_b.x2_fits in_b.x_in_order,
      length_is b.y1 b.y2 in_b.y1_fits in_b.y2_fits in_b.y_in_order,
    ) refl

-- a lane that is raised
small_is : (n : ℕ) → n < 2147483648 → (n + 2147483648) % 4294967296 ≡ raise (pos n)
small_is n h = omega (arith, ints)

large_is : (n : ℕ) → 2147483648 ≤ n → n < 4294967296 → (n + 2147483648) % 4294967296 ≡ raise (negsuc (4294967295 - n))
large_is n h k = omega (arith, ints)

raise_of : (n : ℕ) (z : ℤ) → n < 4294967296 → to_z w32 n ≡ z → (n + 2147483648) % 4294967296 ≡ raise z
raise_of n z h is =
    elim (cases_lt n 2147483648) [
      | inl less ↦ small_is n less ∙ ap raise (sym (to_z_pos w32 n less) ∙ is)
      | inr more ↦
          let same : 4294967296 - suc n ≡ 4294967295 - n = omega arith in
          let large : to_z w32 n ≡ negsuc (4294967295 - n) =
          ap (λ t. sel t (pos n) (negsuc (4294967296 - suc n))) (le-ltb n 2147483648 more) ∙ ap negsuc same
          in
          large_is n more h ∙ ap raise (sym large ∙ is)
    ]

pub lifted_by : (f : ℕ → ℕ → ℕ) → ((n : ℕ) → f n 2147483648 ≡ (n + 2147483648) % 4294967296) → (lanes : List ℕ) (b : Rectangle) → length lanes ≡ 4 → Each1 (Fits w32) lanes
    → AreBitsOf b lanes → zip2 f lanes (2147483648 ∷ 2147483648 ∷ 2147483648 ∷ 2147483648 ∷ []) ≡ raised b
lifted_by f adds [] b long fits is = absurd (omega arith)
lifted_by f adds (n ∷ []) b long fits is = absurd (omega arith)
lifted_by f adds (n ∷ m ∷ []) b long fits is = absurd (omega arith)
lifted_by f adds (n ∷ m ∷ k ∷ []) b long fits is = absurd (omega arith)
lifted_by f adds (n ∷ m ∷ k ∷ j ∷ []) b long fits is =
    let at : (i : ℕ) → get_or (to_z w32 n ∷ to_z w32 m ∷ to_z w32 k ∷ to_z w32 j ∷ []) i (pos 0) ≡ get_or (corners b) i (pos 0) = λ i. ap (λ l. get_or l i (pos 0)) is in
    rw (adds n, adds m, adds k, adds j, raise_of n b.x1 fits.0.fits (at 0), raise_of m b.y1 fits.1.0.fits (at 1), raise_of k b.x2 fits.1.1.0.fits (at 2), raise_of j b.y2 fits.1.1.1.0.fits (at 3)) refl
lifted_by f adds (n ∷ m ∷ k ∷ j ∷ i ∷ rest) b long fits is = absurd (omega arith)

small_product : (a b : ℕ) → a < 4294967296 → b < 4294967296 → (a * b) % 18446744073709551616 ≡ a * b
small_product a b ha hb =
    let less : a ≤ 4294967295 = omega arith in
    let less' : b ≤ 4294967295 = omega arith in
    let most : a * b ≤ 4294967295 * 4294967295 = mul-le-mul less less' in
    omega arith

pub products : (w h v g : ℕ) → w < 4294967296 → h < 4294967296 → v < 4294967296 → g < 4294967296
    → (w * h) % 18446744073709551616 ∷ (v * g) % 18446744073709551616 ∷ [] ≡ w * h ∷ v * g ∷ []
products w h v g hw hh hv hg =
    ap (λ n. n ∷ (v * g) % 18446744073709551616 ∷ []) (small_product w h hw hh) ∙ ap (λ n. w * h ∷ n ∷ []) (small_product v g hv hg)

-- ---- what the areas come to

pub side_small : (low high : ℤ) → FitsSigned w32 low → FitsSigned w32 high → unsigned_abs (high -ℤ low) < 4294967296
side_small low high fl fh = omega (arith, ints)

pub area_small : (b : Rectangle) → IsBox b → area b < 18446744073709551616
area_small b is =
    let wide : unsigned_abs (b.x2 -ℤ b.x1) ≤ 4294967295 = omega (arith, side_small b.x1 b.x2 is.x1_fits is.x2_fits) in
    let tall : unsigned_abs (b.y2 -ℤ b.y1) ≤ 4294967295 = omega (arith, side_small b.y1 b.y2 is.y1_fits is.y2_fits) in
    let most : area b ≤ 4294967295 * 4294967295 = mul-le-mul wide tall in
    omega arith

side_grows : (low high low' high' : ℤ) → low ≤ℤ high → unsigned_abs (high -ℤ low) ≤ unsigned_abs (int_max high high' -ℤ int_min low low')
side_grows low high low' high' ordered = omega (arith, ints, clamps)

pub area_grows : (b k : Rectangle) → IsBox b → area b ≤ area (union b k)
area_grows b k is = mul-le-mul (side_grows b.x1 b.x2 k.x1 k.x2 is.x_in_order) (side_grows b.y1 b.y2 k.y1 k.y2 is.y_in_order)

pub difference_is : (u b : ℕ) → b ≤ u → u < 18446744073709551616 → (u + (18446744073709551616 - b)) % 18446744073709551616 ≡ u - b
difference_is u b h k = omega arith
