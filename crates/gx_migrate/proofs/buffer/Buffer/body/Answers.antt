use Rattle.gx_glog.proofs.Fills.{filled_body}
use Rattle.gx_migrate.proofs.buffer.Buffer.body.Goals as goal

pub returns : goal.returns
returns c = rw (← c.self.view_is, c.deref.ensures.value) (filled_body c.self.inside.end c.self.inside.bytes.items c.self.invariant)
