use Rattle.std.proofs.lemmas.Grind.{common_steps}
use Rattle.std.proofs.Common.{arith}
use Rattle.gx_machine.proofs.sets.place.Goals as goal

pub returns-in-Less-clause-place : goal.returns-in-Less-clause-place
returns-in-Less-clause-place g c = grind (arith, common_steps)

pub loop-i-preserved : goal.loop-i-preserved
loop-i-preserved g c = grind (arith, common_steps)
