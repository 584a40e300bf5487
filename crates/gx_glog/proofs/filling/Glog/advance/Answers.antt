use Rattle.std.proofs.Common.{refl}
use Rattle.gx_glog.proofs.filling.Glog.advance.Goals as goal

pub returns-in-Body : goal.returns-in-Body
returns-in-Body c = rw (← c.self.view_is, c.in-Body.is) refl

pub returns-in-Gate : goal.returns-in-Gate
returns-in-Gate c = rw (← c.self.view_is, c.in-Gate.is) refl
