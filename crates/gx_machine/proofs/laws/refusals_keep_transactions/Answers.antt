use Rattle.gx_machine.proofs.Transactions.{refused_answer, closed_call}
use Rattle.gx_machine.proofs.laws.refusals_keep_transactions.Goals as goal

pub returns-clause-answered : goal.returns-clause-answered
returns-clause-answered g c = λ k old new s why eight step. refused_answer k s why old new eight step.1

pub returns-clause-closed : goal.returns-clause-closed
returns-clause-closed g c = λ k old new s why eight step. closed_call k s old new eight step.2
