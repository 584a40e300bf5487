use Rattle.std.proofs.Common.{refl}
use Rattle.gx_node.proofs.worked.worked_search_reads_each_leaf_once.Goals as goal

pub returns-clause-children : goal.returns-clause-children
returns-clause-children c = refl

pub returns-clause-first : goal.returns-clause-first
returns-clause-first c = refl
