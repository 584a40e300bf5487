use Rattle.std.proofs.Common.{refl}
use Rattle.gx_node.proofs.worked.WorkedTrees.{held_legal, held_end_legal, nine_legal}
use Rattle.gx_node.proofs.worked.worked_trees_are_legal.Goals as goal

pub returns-clause-held : goal.returns-clause-held
returns-clause-held c = held_legal

pub returns-clause-held_end : goal.returns-clause-held_end
returns-clause-held_end c = held_end_legal

pub returns-clause-held_leaves : goal.returns-clause-held_leaves
returns-clause-held_leaves c = refl

pub returns-clause-nine : goal.returns-clause-nine
returns-clause-nine c = nine_legal

pub returns-clause-nine_leaves : goal.returns-clause-nine_leaves
returns-clause-nine_leaves c = refl
