use Rattle.std.proofs.Common.{rules}
use Rattle.gx_class.proofs.box3_class.Box3ClassKeyClass.union.Goals as goal

pub returns : goal.returns
returns c = search rules
