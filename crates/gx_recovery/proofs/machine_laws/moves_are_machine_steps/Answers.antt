use Rattle.gx_recovery.proofs.MachineSteps.{machine_step}
use Rattle.gx_recovery.proofs.machine_laws.moves_are_machine_steps.Goals as goal

pub returns : goal.returns
returns g c = λ k l old new move m works keeps is. machine_step k l old new move m works keeps is
