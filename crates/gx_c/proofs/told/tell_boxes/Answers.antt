use Rattle.std.proofs.Common.{rules}
use Rattle.gx_c.proofs.told.tell_boxes.Goals as goal

pub returns : goal.returns
returns c = search rules
