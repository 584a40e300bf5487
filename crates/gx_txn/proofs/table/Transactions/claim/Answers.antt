use Rattle.std.proofs.lemmas.Grind.{common_steps}
use Rattle.std.proofs.Common.{arith}
use Rattle.gx_txn.proofs.table.Transactions.claim.Goals as goal

pub claim_at-requires-clause-spent : goal.claim_at-requires-clause-spent
claim_at-requires-clause-spent g c = grind (arith, common_steps)

pub returns-clause-takes : goal.returns-clause-takes
returns-clause-takes g c = grind (arith, common_steps)
