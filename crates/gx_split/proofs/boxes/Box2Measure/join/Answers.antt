use Rattle.std.proofs.Common.{◌≤◌, ℤ, ◌≤ℤ◌, ◌-ℤ◌, arith}
use Rattle.std.specs.Prelude.{unsigned_abs}
use Rattle.std.specs.Int.{int_max, int_min}
use Rattle.std.proofs.lemmas.Int.{ints, clamps}
use Rattle.std.proofs.Math.Nat.{mul-le-mul}
use Rattle.gx_split.proofs.boxes.Box2Measure.join.Goals as goal

side : (low high low' high' : ℤ) → low ≤ℤ high → unsigned_abs (high -ℤ low) ≤ unsigned_abs (int_max high high' -ℤ int_min low low')
side low high low' high' ordered = omega (arith, ints, clamps)

pub returns-clause-no_smaller : goal.returns-clause-no_smaller
returns-clause-no_smaller c =
    let a = c.args.self.now in
    let b = c.args.other.now in
    mul-le-mul (side a.x1 a.x2 b.x1 b.x2 c.know_box.ensures.x_in_order) (side a.y1 a.y2 b.y1 b.y2 c.know_box.ensures.y_in_order)

pub returns-clause-value : goal.returns-clause-value
returns-clause-value c = c.union.ensures
