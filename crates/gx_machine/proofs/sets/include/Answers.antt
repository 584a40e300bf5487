use Rattle.std.proofs.lemmas.Grind.{common_steps}
use Rattle.std.proofs.Common.{arith}
use Rattle.gx_machine.proofs.sets.include.Goals as goal

pub returns-in_err-insert-in-Some-clause-full : goal.returns-in_err-insert-in-Some-clause-full
returns-in_err-insert-in-Some-clause-full g c = grind (arith, common_steps)
