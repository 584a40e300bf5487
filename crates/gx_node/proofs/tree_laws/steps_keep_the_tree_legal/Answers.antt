use Rattle.gx_node.proofs.AllSteps.{legal_step, legal_steps}
use Rattle.gx_node.proofs.tree_laws.steps_keep_the_tree_legal.Goals as goal

pub returns-clause-one : goal.returns-clause-one
returns-clause-one g c = λ r law old new step legal is. legal_step r law old new step legal is

pub returns-clause-all : goal.returns-clause-all
returns-clause-all g c = λ r law steps old new legal are. legal_steps r law steps old new legal are
