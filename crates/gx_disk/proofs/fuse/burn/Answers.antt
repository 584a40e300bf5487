use Rattle.std.proofs.Common.{refl}
use Rattle.gx_disk.proofs.fuse.burn.Goals as goal

pub returns-then-left-gt0-clause-left : goal.returns-then-left-gt0-clause-left
returns-then-left-gt0-clause-left c = refl
