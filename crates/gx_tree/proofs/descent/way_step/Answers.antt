use Rattle.std.proofs.lemmas.Grind.{common_steps}
use Rattle.std.proofs.Common.{arith}
use Rattle.gx_tree.proofs.descent.way_step.Goals as goal

pub page-page-requires : goal.page-page-requires
page-page-requires g c = grind (arith, common_steps)
