use Rattle.std.proofs.Common.{◌≡◌, length, map, take}
use Rattle.gx_tree.proofs.halves.pair_keys.Given as goal

abbrev pub invariant-loop-slot : goal.invariant-loop-slot
invariant-loop-slot g l = (length l.keys ≡ length l.leaf.pairs) × (take l.slot l.keys ≡ take l.slot (map (λ x. x.key) l.leaf.pairs))
