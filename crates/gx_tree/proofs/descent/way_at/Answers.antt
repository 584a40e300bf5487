use Rattle.std.proofs.lemmas.Grind.{common_steps}
use Rattle.std.proofs.Common.{rules, arith}
use Rattle.gx_tree.proofs.descent.way_at.Goals as goal

pub returns-then-was_split-clause-way : goal.returns-then-was_split-clause-way
returns-then-was_split-clause-way g c = search rules

pub returns-then-count-most-clause-way : goal.returns-then-count-most-clause-way
returns-then-count-most-clause-way g c = grind (arith, common_steps)

pub returns-else-count-most-clause-way : goal.returns-else-count-most-clause-way
returns-else-count-most-clause-way g c = grind (arith, common_steps)
