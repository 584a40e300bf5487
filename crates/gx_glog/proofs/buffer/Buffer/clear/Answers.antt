use Rattle.gx_glog.proofs.Fills.{wiped}
use Rattle.gx_glog.proofs.buffer.Buffer.clear.Goals as goal

pub invariant_of-self : goal.invariant_of-self
invariant_of-self c = wiped c.self.inside.end c.self.inside.bytes.items _ c.self.invariant c.wipe.ensures
