use Rattle.std.proofs.Common.{rules}
use Rattle.gx_class.proofs.interval_class.comes_before.Goals as goal

pub returns : goal.returns
returns c = search rules
