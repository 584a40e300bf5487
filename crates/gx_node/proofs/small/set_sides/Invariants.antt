use Rattle.std.proofs.Common.{◌≡◌, length}
use Rattle.gx_node.specs.Small.{slots_in, sides_with}
use Rattle.gx_node.proofs.small.set_sides.Given as goal

abbrev pub invariant-loop-rest : goal.invariant-loop-rest
invariant-loop-rest l = sides_with l.sides (slots_in l.rest) ≡ sides_with l.fn.sides (slots_in l.fn.slots)

abbrev pub decreases-loop-rest : goal.decreases-loop-rest
decreases-loop-rest l = length l.rest
