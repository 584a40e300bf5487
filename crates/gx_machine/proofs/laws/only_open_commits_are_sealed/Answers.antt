use Rattle.gx_machine.proofs.Transactions.{sealed_is}
use Rattle.gx_machine.proofs.laws.only_open_commits_are_sealed.Goals as goal

pub returns : goal.returns
returns g c = λ k old new s number eight step. sealed_is k s number old new eight step.1 step.2
