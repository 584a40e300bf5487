use Rattle.gx_node.proofs.AlikeLooks.{stacked_too, found_too, leads_too, descent_too, look_too}
use Rattle.gx_node.proofs.alike.looks_over_trees_that_agree_are_alike.Goals as goal

pub returns-clause-looks : goal.returns-clause-looks
returns-clause-looks g c = λ r one other agree legal wants stack found look. look_too r one other agree legal wants stack found look

pub returns-clause-stacks : goal.returns-clause-stacks
returns-clause-stacks g c = λ one other agree leads item stack used. stacked_too one other agree leads item stack used

pub returns-clause-finds : goal.returns-clause-finds
returns-clause-finds g c = λ one other agree wants item found used. found_too one other agree wants item found used

pub returns-clause-leads : goal.returns-clause-leads
returns-clause-leads g c = λ r one other agree wants leads consistent. leads_too r one other agree wants leads consistent

pub returns-clause-descents : goal.returns-clause-descents
returns-clause-descents g c = λ r one other agree item coming descent. descent_too r one other agree item coming descent
