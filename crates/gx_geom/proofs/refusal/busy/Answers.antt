use Rattle.std.proofs.Common.{rules}
use Rattle.gx_geom.proofs.refusal.busy.Goals as goal

pub returns : goal.returns
returns c = search rules
