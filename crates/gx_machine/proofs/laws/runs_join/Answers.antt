use Rattle.gx_machine.proofs.RunLemmas.{join}
use Rattle.gx_machine.proofs.laws.runs_join.Goals as goal

pub returns : goal.returns
returns g c = λ k old middle new before after first second. join k before after old middle new first second
