use Rattle.std.proofs.Common.{refl}
use Rattle.gx_disk.proofs.fuse.FuseDisk.new.Goals as goal

pub returns-clause-left : goal.returns-clause-left
returns-clause-left g c = refl
