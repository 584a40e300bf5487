use Rattle.gx_node.proofs.PageSteps.{legal_swept, standing_swept_plain}
use Rattle.gx_node.proofs.tree_laws.sweep_takes_unclaimed_marked_pairs.Goals as goal

pub returns-clause-legal : goal.returns-clause-legal
returns-clause-legal g c = λ r old new a claimed legal step. legal_swept r old new a legal claimed step

pub returns-clause-pairs : goal.returns-clause-pairs
returns-clause-pairs g c = λ r old new a claimed legal step test. standing_swept_plain r old new a legal claimed step test
