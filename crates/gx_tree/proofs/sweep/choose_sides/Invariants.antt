use Rattle.std.proofs.Common.{◌≡◌, Bool, length}
use Rattle.gx_machine.specs.declared.entry.Entry.{Entry}
use Rattle.gx_node.specs.Edits.{entry_of}
use Rattle.gx_node.specs.Writes.{is_sweepable}
use Rattle.gx_tree.proofs.Sides.{Chosen}
use Rattle.gx_tree.proofs.sweep.choose_sides.Given as goal

abbrev pub invariant-loop-slot : goal.invariant-loop-slot
invariant-loop-slot g l =
    (length l.sides ≡ length l.leaf.pairs)
    × ((test : Entry g.row.K-Key.Denot → Bool) → ((entry : Entry g.row.K-Key.Denot) (answer : Bool) → goal.F-post g l.claimed entry answer → answer ≡ test entry)
    → Chosen (is_sweepable (λ x. test (entry_of x))) l.leaf.pairs l.sides l.slot)
