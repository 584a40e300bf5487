use Rattle.std.proofs.Common.{rules}
use Rattle.gx_class.proofs.box_probe.BoxProbe.covering.Goals as goal

pub returns : goal.returns
returns c = search rules
