use Rattle.std.proofs.Common.{rules}
use Rattle.gx_geom.proofs.box3.Box3Display.fmt.Goals as goal

pub returns-clause-writes : goal.returns-clause-writes
returns-clause-writes g c = search rules
