use Rattle.std.proofs.Common.{◌≡◌, Bool}
use Rattle.gx_machine.specs.declared.entry.Entry.{Entry}
use Rattle.gx_node.specs.Edits.{entry_of}
use Rattle.gx_node.specs.Writes.{is_sweepable}
use Rattle.gx_storage.proofs.pages.Removing.{NonePasses}
use Rattle.gx_storage.proofs.pages.any_removable.Given as goal

abbrev pub invariant-loop-slot : goal.invariant-loop-slot
invariant-loop-slot g l =
    (test : Entry g.row.K-Key.Denot → Bool) → ((entry : Entry g.row.K-Key.Denot) (answer : Bool) → goal.F-post g l.claimed entry answer → answer ≡ test entry)
    → NonePasses (is_sweepable (λ x. test (entry_of x))) l.leaf.pairs l.slot
