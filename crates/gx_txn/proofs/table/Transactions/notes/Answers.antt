use Rattle.std.proofs.lemmas.Grind.{common_steps}
use Rattle.std.proofs.Common.{arith}
use Rattle.gx_txn.proofs.table.Transactions.notes.Goals as goal

pub returns-clause-notes : goal.returns-clause-notes
returns-clause-notes g c = grind (arith, common_steps)

pub returns-clause-kept : goal.returns-clause-kept
returns-clause-kept g c = grind (arith, common_steps)
