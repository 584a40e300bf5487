use Rattle.std.proofs.lemmas.Grind.{common_steps}
use Rattle.std.proofs.Common.{rules, arith}
use Rattle.gx_tree.proofs.leaf_steps.add_step.Goals as goal

pub change-requires-clause-fits : goal.change-requires-clause-fits
change-requires-clause-fits g c = search rules

pub returns-clause-tells : goal.returns-clause-tells
returns-clause-tells g c = record { added = search rules; refused = search rules; damaged = search rules }

pub prepare_page-requires : goal.prepare_page-requires
prepare_page-requires g c = grind (arith, common_steps)
