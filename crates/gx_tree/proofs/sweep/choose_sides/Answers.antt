use Rattle.std.proofs.Common.{◌≤◌, length, arith, rules}
use Rattle.gx_node.specs.Edits.{entry_of}
use Rattle.gx_node.specs.Writes.{is_sweepable}
use Rattle.gx_tree.proofs.Sides.{all_chosen}
use Rattle.gx_tree.proofs.sweep.choose_sides.Goals as goal

pub returns : goal.returns
returns g c =
    let pairs = c.args.leaf.now.pairs in
    let ended : length pairs ≤ c.loop-slot.slot = search rules in
    λ test agrees. all_chosen (is_sweepable (λ x. test (entry_of x))) pairs c.loop-slot.sides c.loop-slot.invariant.0
    (λ k low x at. c.loop-slot.invariant.1 test agrees k (omega (arith, low, ended)) x at)
