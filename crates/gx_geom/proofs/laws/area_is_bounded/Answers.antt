use Rattle.std.proofs.Common.{◌≤◌, ℤ, arith, ◌≤ℤ◌, ◌-ℤ◌, FitsSigned, w32}
use Rattle.std.specs.Prelude.{unsigned_abs}
use Rattle.std.proofs.lemmas.Int.{ints}
use Rattle.std.proofs.Math.Nat.{mul-le-mul}
use Rattle.gx_geom.proofs.laws.area_is_bounded.Goals as goal

side : (low high : ℤ) → low ≤ℤ high → FitsSigned w32 low → FitsSigned w32 high → unsigned_abs (high -ℤ low) ≤ 4294967295
side low high ordered low_fits high_fits = omega (arith, ints)

pub returns-clause-bound : goal.returns-clause-bound
returns-clause-bound c = λ a b.
    mul-le-mul (side a.x1 a.x2 b.x_in_order b.x1_fits b.x2_fits) (side a.y1 a.y2 b.y_in_order b.y1_fits b.y2_fits)
