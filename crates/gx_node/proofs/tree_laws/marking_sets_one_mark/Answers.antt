use Rattle.gx_node.proofs.PageSteps.{legal_marked, standing_one_marked}
use Rattle.gx_node.proofs.tree_laws.marking_sets_one_mark.Goals as goal

pub returns-clause-legal : goal.returns-clause-legal
returns-clause-legal g c = λ r old new a row key mark legal step. legal_marked r old new a legal row key mark step

pub returns-clause-pairs : goal.returns-clause-pairs
returns-clause-pairs g c = λ r old new a row key mark legal step test before after y pairs is. standing_one_marked r row key mark old new a legal step test before after y pairs is
