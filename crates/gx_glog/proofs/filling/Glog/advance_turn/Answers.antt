use Rattle.std.proofs.Common.{refl}
use Rattle.gx_glog.proofs.filling.Glog.advance_turn.Goals as goal

pub returns-in-Gate : goal.returns-in-Gate
returns-in-Gate c = rw (← c.self.view_is, c.in-Gate.is) refl

pub returns-in-Selector : goal.returns-in-Selector
returns-in-Selector c = rw (← c.self.view_is, c.in-Selector.is) refl
