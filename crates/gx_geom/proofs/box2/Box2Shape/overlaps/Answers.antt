use Rattle.std.proofs.Common.{rules}
use Rattle.gx_geom.proofs.box2.Box2Shape.overlaps.Goals as goal

pub returns : goal.returns
returns c = search rules
