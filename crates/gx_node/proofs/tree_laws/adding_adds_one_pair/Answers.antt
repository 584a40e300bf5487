use Rattle.gx_node.proofs.PageSteps.{legal_added, standing_added}
use Rattle.gx_node.proofs.tree_laws.adding_adds_one_pair.Goals as goal

pub returns-clause-legal : goal.returns-clause-legal
returns-clause-legal g c = λ r law old new a x legal step. legal_added r old new a legal law x step

pub returns-clause-pairs : goal.returns-clause-pairs
returns-clause-pairs g c = λ r law old new a x legal step test. standing_added r old new a legal law x step test
