use Rattle.gx_node.proofs.worked.WorkedSteps.{boxes_lawful}
use Rattle.gx_node.proofs.worked.boxes_are_lawful.Goals as goal

pub returns : goal.returns
returns c = boxes_lawful
