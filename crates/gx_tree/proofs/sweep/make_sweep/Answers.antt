use Rattle.std.proofs.lemmas.Grind.{common_steps}
use Rattle.std.proofs.Common.{arith}
use Rattle.gx_tree.proofs.sweep.make_sweep.Goals as goal

pub prepare_page-requires : goal.prepare_page-requires
prepare_page-requires g c = grind (arith, common_steps)

pub returns-clause-takes : goal.returns-clause-takes
returns-clause-takes g c = grind (arith, common_steps)
