use Rattle.std.proofs.Common.{arith}
use Rattle.std.proofs.lemmas.Grind.{common_steps}
use Rattle.gx_tree.proofs.split.plan_split.Goals as goal

pub returns-in-Some-halve-clause-some : goal.returns-in-Some-halve-clause-some
returns-in-Some-halve-clause-some g c = grind (arith, common_steps)
