-- Numbers of any width in two's complement, and their bytes.
use Rattle.std.proofs.Common.{◌≡◌, ℕ, ◌^◌, ◌<◌, ℤ, FitsSigned, to_z, of_z, ap, sym, ◌∙◌, List}
use Rattle.std.specs.Int.{cast_signed, cast_unsigned, to_be_bytes, from_be_bytes}
use Rattle.std.proofs.lemmas.Int.{to_z-of_z, of_z-to_z}
use Rattle.std.proofs.Math.Facts.{Fits-of_z}
use mir.Syntax.{Width}
use mir.Val.{bits}

-- given that the bytes of what fits a width read as it: so do those of a signed number, and no other number has them
module _ (w : Width) (back : (n : ℕ) → n < 2 ^ bits w → from_be_bytes w (to_be_bytes w n) ≡ n) where
  pub read_back : (z : ℤ) → FitsSigned w z → cast_signed w (from_be_bytes w (to_be_bytes w (cast_unsigned w z))) ≡ z
  read_back z fits = let small = Fits-of_z fits in ap (cast_signed w) (back (cast_unsigned w z) small.fits) ∙ to_z-of_z w z fits

  pub same_number : (y z : ℤ) → FitsSigned w y → FitsSigned w z → to_be_bytes w (cast_unsigned w y) ≡ to_be_bytes w (cast_unsigned w z) → y ≡ z
  same_number y z fits fits' e = sym (read_back y fits) ∙ ap (λ l. cast_signed w (from_be_bytes w l)) e ∙ read_back z fits'

-- a number that was read from bytes, and passed on, has those bytes
pub bytes_kept : (w : Width) (bytes : List ℕ) (n : ℕ) (z : ℤ) → to_be_bytes w n ≡ bytes → z ≡ cast_signed w n → FitsSigned w z → n < 2 ^ bits w
    → bytes ≡ to_be_bytes w (of_z w (to_z w (of_z w z)))
bytes_kept w bytes n z written is fits small =
    sym written ∙ ap (to_be_bytes w) (sym (ap (of_z w) (to_z-of_z w z fits) ∙ ap (of_z w) is ∙ of_z-to_z w n small))
