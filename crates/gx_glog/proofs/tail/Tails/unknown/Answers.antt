use Rattle.gx_glog.proofs.Tails.{replicated_are}
use Rattle.gx_glog.proofs.tail.Tails.unknown.Goals as goal

pub invariant_of-result : goal.invariant_of-result
invariant_of-result c = replicated_are
