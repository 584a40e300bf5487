use Rattle.gx_node.proofs.AlikeSteps.{step_too}
use Rattle.gx_node.proofs.alike.steps_of_trees_that_agree_are_alike.Goals as goal

pub returns : goal.returns
returns g c = λ r law one one_then other other_then before after beyond legal step is. step_too r law one one_then other other_then before after beyond legal step is
