use Rattle.std.proofs.Common.{◌≡◌}
use Rattle.std.specs.Prelude.{replicate}
use Rattle.gx_txn.specs.Tables.{nothing_held}
use Rattle.gx_txn.proofs.table.free_slots.Given as goal

abbrev pub invariant-loop : goal.invariant-loop
invariant-loop g l = l.slots.items ≡ replicate l.counter nothing_held
