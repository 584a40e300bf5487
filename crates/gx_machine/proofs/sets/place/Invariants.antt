use Rattle.std.proofs.Common.{◌≡◌, ◌++◌, take, drop}
use Rattle.gx_machine.specs.Keys.{keys}
use Rattle.gx_machine.specs.Sets.{including}
use Rattle.gx_machine.proofs.sets.place.Given as goal

-- what the loop has passed stays in front
abbrev pub invariant-loop-i : goal.invariant-loop-i
invariant-loop-i g l =
    let k = keys g.B.Ord.cmp g.B.Shape.overlap g.B.Shape.inside in
    including k l.e l.set ≡ take l.i l.set ++ including k l.e (drop l.i l.set)
