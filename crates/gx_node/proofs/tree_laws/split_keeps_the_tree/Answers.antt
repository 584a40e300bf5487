use Rattle.gx_node.proofs.Splits.{legal_split, standing_split, numbers_split}
use Rattle.gx_node.proofs.tree_laws.split_keeps_the_tree.Goals as goal

pub returns-clause-legal : goal.returns-clause-legal
returns-clause-legal g c = λ r law old new n p sides left right legal step. legal_split r law old new n p sides left right legal step

pub returns-clause-pairs : goal.returns-clause-pairs
returns-clause-pairs g c = λ r law old new n p sides left right legal step test. standing_split r law old new n p sides left right legal step test

pub returns-clause-numbers : goal.returns-clause-numbers
returns-clause-numbers g c = λ r old new n p sides left right step. numbers_split r old new n p sides left right step
