use Rattle.std.proofs.Common.{refl}
use Rattle.gx_glog.proofs.filling.Glog.begin_batch.Goals as goal

pub returns : goal.returns
returns c = rw (← c.self.view_is, c.widen.ensures, c.sectors.ensures.sectors, c.swap.ensures.y_after, c.swap.ensures.x_after, c.clear.ensures) refl
