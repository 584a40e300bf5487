use Rattle.std.proofs.Common.{◌≡◌, length, map, take}
use Rattle.gx_tree.proofs.halves.child_keys.Given as goal

abbrev pub invariant-loop-slot : goal.invariant-loop-slot
invariant-loop-slot g l = (length l.keys ≡ length l.inner.children) × (take l.slot l.keys ≡ take l.slot (map (λ c. c.key) l.inner.children))
