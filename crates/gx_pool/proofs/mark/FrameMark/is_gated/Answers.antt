use Rattle.std.proofs.Common.{rules}
use Rattle.gx_pool.proofs.mark.FrameMark.is_gated.Goals as goal

pub returns : goal.returns
returns c = search rules
