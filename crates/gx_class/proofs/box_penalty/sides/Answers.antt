use Rattle.gx_class.proofs.box_penalty.LaneAreas.{sides_are}
use Rattle.gx_class.proofs.box_penalty.sides.Goals as goal

pub returns : goal.returns
returns c b k b_is k_is bound key = rw (bound, key) (sides_are b k b_is k_is)
