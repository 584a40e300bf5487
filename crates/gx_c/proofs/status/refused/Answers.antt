use Rattle.std.proofs.Common.{rules}
use Rattle.gx_c.proofs.status.refused.Goals as goal

pub returns : goal.returns
returns c = search rules
