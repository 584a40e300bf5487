use Rattle.std.proofs.Common.{rules}
use Rattle.gx_geom.proofs.box2.Box2.greater_y2.Goals as goal

pub returns : goal.returns
returns c = search rules
