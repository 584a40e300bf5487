use Rattle.std.proofs.Common.{refl}
use Rattle.gx_node.proofs.worked.WorkedLook.{held_seek}
use Rattle.gx_node.proofs.worked.worked_seek_goes_right.Goals as goal

pub returns-clause-seek : goal.returns-clause-seek
returns-clause-seek c = held_seek

pub returns-clause-leaves : goal.returns-clause-leaves
returns-clause-leaves c = refl

pub returns-clause-last : goal.returns-clause-last
returns-clause-last c = refl
