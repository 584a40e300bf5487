use Rattle.gx_machine.proofs.RunLemmas.{runs_unseen}
use Rattle.gx_machine.proofs.laws.unseen_faults_permit_nothing_new.Goals as goal

pub returns : goal.returns
returns g c = λ k old new steps run. runs_unseen k old new steps run
