use Rattle.gx_commands.proofs.Forgetting.{script_faultless}
use Rattle.gx_commands.proofs.laws.a_script_that_met_nothing_is_faultless.Goals as goal

pub returns : goal.returns
returns g c = λ grammar. script_faultless grammar g.I.Answers.answered
