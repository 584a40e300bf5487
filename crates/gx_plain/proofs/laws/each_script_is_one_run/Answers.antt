use Rattle.gx_plain.proofs.CallRuns.{script_run}
use Rattle.gx_plain.proofs.laws.each_script_is_one_run.Goals as goal

pub returns : goal.returns
returns g c = λ grammar k number lines old new text plain script. script_run grammar k number lines old new text plain script
