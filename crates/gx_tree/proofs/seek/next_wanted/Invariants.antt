use Rattle.std.proofs.Common.{◌-◌, length}
use Rattle.gx_node.proofs.Live.{IsPast}
use Rattle.gx_tree.specs.Wants.{has_row}
use Rattle.gx_tree.proofs.seek.next_wanted.Given as goal

abbrev pub invariant-scan : goal.invariant-scan
invariant-scan g l = IsPast (has_row l.wanted.row) (λ x. g.K.Probing.passes l.wanted.keys x.key) l.leaf.pairs l.from l.slot

abbrev pub decreases-scan : goal.decreases-scan
decreases-scan g l = length l.leaf.pairs - l.slot
