use Rattle.std.proofs.Common.{take}
use Rattle.gx_tree.specs.Splitting.{UnitesAny, on_side}
use Rattle.gx_tree.proofs.halves.union_of.Given as goal

abbrev pub invariant-loop-slot : goal.invariant-loop-slot
invariant-loop-slot g l = UnitesAny g.K.Key.Shape.inside l.union (on_side l.side (take l.slot l.sides) (take l.slot l.keys))
