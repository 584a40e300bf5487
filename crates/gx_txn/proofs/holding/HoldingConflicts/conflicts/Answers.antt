use Rattle.std.proofs.Common.{rules}
use Rattle.gx_txn.proofs.holding.HoldingConflicts.conflicts.Goals as goal

pub returns-then-is_claimed : goal.returns-then-is_claimed
returns-then-is_claimed g c = search rules

pub returns-else-is_claimed : goal.returns-else-is_claimed
returns-else-is_claimed g c = search rules
