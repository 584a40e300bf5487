use Rattle.std.proofs.Common.{◌≡◌, ◌++◌, take, drop}
use Rattle.gx_recovery.specs.Analysis.{touching}
use Rattle.gx_recovery.specs.Kept.{by_order}
use Rattle.gx_recovery.proofs.touched.place.Given as goal

-- what the loop has passed stays in front
abbrev pub invariant-loop-i : goal.invariant-loop-i
invariant-loop-i g l =
    let k = by_order g.E.Ord.cmp in
    touching k l.t l.touched ≡ take l.i l.touched ++ touching k l.t (drop l.i l.touched)
