use Rattle.std.proofs.Common.{rules}
use Rattle.gx_geom.proofs.box3.Box3Shape.overlaps.Goals as goal

pub returns : goal.returns
returns c = search rules
