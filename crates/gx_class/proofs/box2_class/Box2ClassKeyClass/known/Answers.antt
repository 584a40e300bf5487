use Rattle.std.proofs.Common.{rules}
use Rattle.gx_class.proofs.box2_class.Box2ClassKeyClass.known.Goals as goal

pub returns : goal.returns
returns c = search rules
