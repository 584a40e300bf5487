use Rattle.gx_machine.proofs.laws.AloneRuns.{committed_alone}
use Rattle.gx_machine.proofs.laws.committed_transactions_run_alone.Goals as goal

pub returns : goal.returns
returns g c = λ k l start idle kept. committed_alone k l start idle kept
