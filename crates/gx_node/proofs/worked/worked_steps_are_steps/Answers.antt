use Rattle.gx_node.proofs.worked.WorkedSteps.{held_are_steps, nine_are_steps, swept_are_steps}
use Rattle.gx_node.proofs.worked.worked_steps_are_steps.Goals as goal

pub returns-clause-held : goal.returns-clause-held
returns-clause-held c = held_are_steps

pub returns-clause-nine : goal.returns-clause-nine
returns-clause-nine c = nine_are_steps

pub returns-clause-swept : goal.returns-clause-swept
returns-clause-swept c = swept_are_steps
