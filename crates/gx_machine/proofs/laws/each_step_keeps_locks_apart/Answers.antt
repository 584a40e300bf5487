use Rattle.gx_machine.proofs.StepsKeep.{step_apart}
use Rattle.gx_machine.proofs.laws.each_step_keeps_locks_apart.Goals as goal

pub returns : goal.returns
returns g c = λ k l old new step is hold. step_apart k l old new step is hold
