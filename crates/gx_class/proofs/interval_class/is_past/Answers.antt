use Rattle.std.proofs.Common.{refl}
use Rattle.gx_class.proofs.interval_class.is_past.Goals as goal

pub returns : goal.returns
returns c = refl
