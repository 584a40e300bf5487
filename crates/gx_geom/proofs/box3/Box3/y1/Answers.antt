use Rattle.std.proofs.Common.{rules}
use Rattle.gx_geom.proofs.box3.Box3.y1.Goals as goal

pub returns-clause-value : goal.returns-clause-value
returns-clause-value c = search rules
