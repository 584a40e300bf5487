-- Corners raised by 2^31: numbers from 0 on, in the same order.
use Rattle.std.specs.Prelude.{◌≡◌, ℕ, ℤ, pos, ◌+ℤ◌, ◌-ℤ◌, unsigned_abs, List, [], ◌∷◌, map}
use Rattle.std.proofs.Common.{to_z}
use Rattle.std.specs.Int.{w32}
use Rattle.gx_geom.specs.Rectangles.{Rectangle}
use Rattle.gx_class.specs.Probes.{corners}

abbrev pub raise : ℤ → ℕ
raise z = unsigned_abs (z +ℤ pos 2147483648)

abbrev pub raised : Rectangle → List ℕ
raised b = raise b.x1 ∷ raise b.y1 ∷ raise b.x2 ∷ raise b.y2 ∷ []

-- how wide and how high two boxes are
abbrev pub sides_of_two : Rectangle → Rectangle → List ℕ
sides_of_two a b =
    unsigned_abs (a.x2 -ℤ a.x1) ∷ unsigned_abs (a.y2 -ℤ a.y1) ∷ unsigned_abs (b.x2 -ℤ b.x1) ∷ unsigned_abs (b.y2 -ℤ b.y1) ∷ []

-- lanes that are a box's corners in two's complement
abbrev pub AreBitsOf : Rectangle → List ℕ → Type 0
AreBitsOf b lanes = map (to_z w32) lanes ≡ corners b
