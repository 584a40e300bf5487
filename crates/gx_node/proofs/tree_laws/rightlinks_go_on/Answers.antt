use Rattle.gx_node.proofs.tree_laws.Rightlinks.{goes_on_begins, goes_on_step, goes_on_steps}
use Rattle.gx_node.proofs.tree_laws.rightlinks_go_on.Goals as goal

pub returns-clause-begins : goal.returns-clause-begins
returns-clause-begins g c = λ r t legal. goes_on_begins r t legal

pub returns-clause-one : goal.returns-clause-one
returns-clause-one g c = λ r law floor old new step legal is goes. goes_on_step r law floor old new step legal is goes

pub returns-clause-all : goal.returns-clause-all
returns-clause-all g c = λ r law floor steps old new legal are goes. goes_on_steps r law floor steps old new legal are goes
