use Rattle.std.proofs.Common.{get_or, rules, FitsSigned}
use Rattle.std.specs.Int.{w32}
use Rattle.std.proofs.Math.Nat.{mul-le-mul}
use Rattle.std.proofs.lemmas.Int.{to_z-of_z}
use Rattle.gx_split.proofs.solids.Box3Measure.reach.Goals as goal

pub returns-clause-most : goal.returns-clause-most
returns-clause-most c keys framed k d within =
    let other = get_or keys k d in
    let is = framed k d within in
    let low_x : FitsSigned w32 c.x1.result = search rules in
    let high_x : FitsSigned w32 c.x2.result = search rules in
    let from_x : FitsSigned w32 c.x1-2.result = search rules in
    let to_x : FitsSigned w32 c.x2-2.result = search rules in
    let low_y : FitsSigned w32 c.y1.result = search rules in
    let high_y : FitsSigned w32 c.y2.result = search rules in
    let from_y : FitsSigned w32 c.y1-2.result = search rules in
    let to_y : FitsSigned w32 c.y2-2.result = search rules in
    let low_z : FitsSigned w32 c.z1.result = search rules in
    let high_z : FitsSigned w32 c.z2.result = search rules in
    let from_z : FitsSigned w32 c.z1-2.result = search rules in
    let to_z : FitsSigned w32 c.z2-2.result = search rules in
    let reached_x = simp to_z-of_z at c.longest_side-width.ensures in
    let reached_y = simp to_z-of_z at c.longest_side-height.ensures in
    let reached_z = simp to_z-of_z at c.longest_side-depth.ensures in
    let width = reached_x other.x1 other.x2 (rw c.x1-2.ensures.value is.in_x.after) is.in_x.in_order (rw c.x2-2.ensures.value is.in_x.before) is.in_x.short in
    let height = reached_y other.y1 other.y2 (rw c.y1-2.ensures.value is.in_y.after) is.in_y.in_order (rw c.y2-2.ensures.value is.in_y.before) is.in_y.short in
    let depth = reached_z other.z1 other.z2 (rw c.z1-2.ensures.value is.in_z.after) is.in_z.in_order (rw c.z2-2.ensures.value is.in_z.before) is.in_z.short in
    rw (
      ← c.x1.ensures.value,
      ← c.x2.ensures.value,
      ← c.y1.ensures.value,
      ← c.y2.ensures.value,
      ← c.z1.ensures.value,
      ← c.z2.ensures.value,
      c.from-3.ensures,
      c.from-4.ensures,
      c.from.ensures,
      c.from-2.ensures,
    ) (mul-le-mul (mul-le-mul width height) depth)
