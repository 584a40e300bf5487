use Rattle.gx_node.proofs.PageSteps.{legal_widened, standing_widened}
use Rattle.gx_node.proofs.tree_laws.widening_keeps_the_tree.Goals as goal

pub returns-clause-legal : goal.returns-clause-legal
returns-clause-legal g c = λ r law old new a x coming key legal step. legal_widened r old new a legal law x coming key step

pub returns-clause-pairs : goal.returns-clause-pairs
returns-clause-pairs g c = λ r law old new a x coming key legal step test. standing_widened r old new a legal law x coming key step test
