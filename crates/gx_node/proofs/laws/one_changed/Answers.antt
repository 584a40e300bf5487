use Rattle.gx_node.proofs.OneChanged.{mark_once, bound_once}
use Rattle.gx_node.proofs.laws.one_changed.Goals as goal

pub returns : goal.returns
returns g c = record { mark = mark_once; bound = bound_once }
