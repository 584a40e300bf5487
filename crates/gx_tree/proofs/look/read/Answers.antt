use Rattle.std.proofs.lemmas.Grind.{common_steps}
use Rattle.std.proofs.Common.{arith}
use Rattle.gx_tree.proofs.look.read.Goals as goal

pub returns-then-level-eq0 : goal.returns-then-level-eq0
returns-then-level-eq0 g c = grind (arith, common_steps)

pub returns-else-level-eq0 : goal.returns-else-level-eq0
returns-else-level-eq0 g c = grind (arith, common_steps)
