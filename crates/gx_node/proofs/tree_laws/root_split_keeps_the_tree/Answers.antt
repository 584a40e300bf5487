use Rattle.gx_node.proofs.Roots.{legal_root, standing_root}
use Rattle.gx_node.proofs.tree_laws.root_split_keeps_the_tree.Goals as goal

pub returns-clause-legal : goal.returns-clause-legal
returns-clause-legal g c = λ r law old new sides left right legal step. legal_root r old new sides left right legal step law.two

pub returns-clause-pairs : goal.returns-clause-pairs
returns-clause-pairs g c = λ r old new sides left right legal step test. standing_root r old new sides left right legal step test
