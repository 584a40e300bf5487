use Rattle.std.proofs.lemmas.Grind.{common_steps}
use Rattle.std.proofs.Common.{arith}
use Rattle.gx_pool.proofs.mark.leaf_between.Goals as goal

pub returns-then-not-is_upper-clause-found : goal.returns-then-not-is_upper-clause-found
returns-then-not-is_upper-clause-found c = grind (arith, common_steps)
