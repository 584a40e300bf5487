use Rattle.std.proofs.Common.{◌≡◌, length, map, not, take}
use Rattle.gx_tree.proofs.moving.turn.Given as goal

abbrev pub invariant-loop-slot : goal.invariant-loop-slot
invariant-loop-slot l = (length l.others ≡ length l.sides) × (take l.slot l.others ≡ map not (take l.slot l.sides))
