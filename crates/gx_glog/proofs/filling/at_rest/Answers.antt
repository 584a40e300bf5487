use Rattle.std.proofs.Common.{refl}
use Rattle.gx_glog.proofs.filling.at_rest.Goals as goal

pub returns : goal.returns
returns c = rw (c.in_ok-new.ensures, c.in_ok-new-2.ensures, c.unknown.ensures) refl
