use Rattle.std.proofs.Common.{rules}
use Rattle.gx_class.proofs.box2_class.Box2ClassKeyClass.start.Goals as goal

pub returns : goal.returns
returns c = search rules
