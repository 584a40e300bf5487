use Rattle.std.proofs.Common.{refl}
use Rattle.gx_class.proofs.interval_probe.IntervalClassProbing.probe_keys.Goals as goal

pub returns : goal.returns
returns c = λ _ _. refl
