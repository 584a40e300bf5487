use Rattle.std.proofs.Common.{◌∙◌, ap, arith, add-zero}
use Rattle.gx_machine.specs.Machine.{newest}
use Rattle.gx_machine.proofs.Survival.{acknowledged, run_rises}
use Rattle.gx_machine.proofs.laws.acknowledged_commits_survive.Goals as goal

pub returns : goal.returns
returns g c = λ k old answered last crashed s committed number steps answer run crash. (
  omega (arith, acknowledged k s committed old answered answer.1, run_rises k steps answered last run, crash.0),
  ap newest crash.2 ∙ add-zero number,
  ap (λ m. m.latest) crash.2,
)
