use Rattle.std.proofs.Common.{◌≡◌, ◌≤◌, not, take}
use Rattle.gx_node.specs.Lists.{how_many}
use Rattle.gx_restart.proofs.verification.entries.count_pairs.Given as goal

-- the pairs before this slot were counted
abbrev pub invariant-loop-slot : goal.invariant-loop-slot
invariant-loop-slot g l = record { live : l.live ≡ how_many (λ x. not x.marked) (take l.slot l.leaf.pairs); few : l.live ≤ l.slot }
