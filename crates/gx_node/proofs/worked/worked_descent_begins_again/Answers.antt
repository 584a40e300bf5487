use Rattle.std.proofs.Common.{refl}
use Rattle.gx_node.proofs.worked.worked_descent_begins_again.Goals as goal

pub returns-clause-before : goal.returns-clause-before
returns-clause-before c = refl

pub returns-clause-later : goal.returns-clause-later
returns-clause-later c = refl

pub returns-clause-no_parent : goal.returns-clause-no_parent
returns-clause-no_parent c = refl

pub returns-clause-left : goal.returns-clause-left
returns-clause-left c = refl

pub returns-clause-left_before : goal.returns-clause-left_before
returns-clause-left_before c = refl
