use Rattle.std.proofs.Common.{rules}
use Rattle.gx_geom.proofs.box3.Box3Shape.covers.Goals as goal

pub returns : goal.returns
returns c = search rules
