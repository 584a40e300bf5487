use Rattle.gx_glog.proofs.Fills.{replicated_zero}
use Rattle.gx_glog.proofs.turn.zeroed.Goals as goal

pub returns-clause-zeros : goal.returns-clause-zeros
returns-clause-zeros g c = λ k. replicated_zero _ k
