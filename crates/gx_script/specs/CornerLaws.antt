-- Laws of the corners of boxes.
use Rattle.std.proofs.Common.{◌≡◌, ℤ, List, [], ◌∷◌, Bool, true, false, cond, length, refl, ap, ◌∙◌, arith, None, Some}
use Rattle.std.specs.Prelude.{int_le, ◌&&◌}
use Rattle.gx_geom.specs.Rectangles.{Rectangle, rectangle_of}
use Rattle.gx_geom.specs.Solids.{Solid, solid_of}
use Rattle.gx_script.specs.Corners.{number_at, rectangle_corners, rectangle_made, solid_corners, solid_made}

-- what is made in one case alone
only_made : {B : Type 0} (t : Bool) (b key : B) → cond t (Some b) None ≡ Some key → key ≡ b
only_made true b key e = cc
only_made false b key e = cc

-- four numbers, one by one
four : (zs : List ℤ) → length zs ≡ 4 → number_at 0 zs ∷ number_at 1 zs ∷ number_at 2 zs ∷ number_at 3 zs ∷ [] ≡ zs
four [] e = cc
four (a ∷ []) e = cc
four (a ∷ b ∷ []) e = cc
four (a ∷ b ∷ c ∷ []) e = cc
four (a ∷ b ∷ c ∷ d ∷ []) e = refl
four (a ∷ b ∷ c ∷ d ∷ x ∷ zs) e = absurd (omega arith)

six : (zs : List ℤ) → length zs ≡ 6
    → number_at 0 zs ∷ number_at 1 zs ∷ number_at 2 zs ∷ number_at 3 zs ∷ number_at 4 zs ∷ number_at 5 zs ∷ [] ≡ zs
six [] e = cc
six (a ∷ []) e = cc
six (a ∷ b ∷ []) e = cc
six (a ∷ b ∷ c ∷ []) e = cc
six (a ∷ b ∷ c ∷ d ∷ []) e = cc
six (a ∷ b ∷ c ∷ d ∷ x ∷ []) e = cc
six (a ∷ b ∷ c ∷ d ∷ x ∷ y ∷ []) e = refl
six (a ∷ b ∷ c ∷ d ∷ x ∷ y ∷ z ∷ zs) e = absurd (omega arith)

-- a box that is made of corners has these
pub rectangle_as_made : (zs : List ℤ) (b : Rectangle) → length zs ≡ 4 → rectangle_made zs ≡ Some b → rectangle_corners b ≡ zs
rectangle_as_made zs b many e =
    let made = only_made (int_le (number_at 0 zs) (number_at 2 zs) && int_le (number_at 1 zs) (number_at 3 zs))
    (rectangle_of (number_at 0 zs) (number_at 1 zs) (number_at 2 zs) (number_at 3 zs)) b e in
    ap rectangle_corners made ∙ four zs many

pub solid_as_made : (zs : List ℤ) (b : Solid) → length zs ≡ 6 → solid_made zs ≡ Some b → solid_corners b ≡ zs
solid_as_made zs b many e =
    let made = only_made (int_le (number_at 0 zs) (number_at 3 zs) && (int_le (number_at 1 zs) (number_at 4 zs) && int_le (number_at 2 zs) (number_at 5 zs)))
    (solid_of (number_at 0 zs) (number_at 1 zs) (number_at 2 zs) (number_at 3 zs) (number_at 4 zs) (number_at 5 zs)) b e in
    ap solid_corners made ∙ six zs many
