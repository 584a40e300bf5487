use Rattle.gx_node.proofs.worked.WorkedSteps.{twice_not_legal, off_not_legal, small_not_legal}
use Rattle.gx_node.proofs.worked.these_trees_are_not_legal.Goals as goal

pub returns-clause-named_twice : goal.returns-clause-named_twice
returns-clause-named_twice c = twice_not_legal

pub returns-clause-off_the_chain : goal.returns-clause-off_the_chain
returns-clause-off_the_chain c = off_not_legal

pub returns-clause-bound_too_small : goal.returns-clause-bound_too_small
returns-clause-bound_too_small c = small_not_legal
