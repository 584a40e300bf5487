use Rattle.gx_machine.proofs.laws.SerialRuns.{serial}
use Rattle.gx_machine.proofs.laws.every_run_is_serial.Goals as goal

pub returns : goal.returns
returns g c = λ k l start idle kept. serial k l start idle kept
