use Rattle.gx_glog.proofs.Fills.{zero_filled}
use Rattle.gx_migrate.proofs.buffer.Buffer.new.Goals as goal

pub invariant_of-result : goal.invariant_of-result
invariant_of-result c = zero_filled _ c.in_ok-zeros.ensures.size c.in_ok-zeros.ensures.zeros
