use Rattle.std.proofs.Common.{rules}
use Rattle.gx_disk.proofs.fuse.FuseDiskSectorDisk.write.Goals as goal

pub returns-then-burn-clause-not_made : goal.returns-then-burn-clause-not_made
returns-then-burn-clause-not_made c = search rules

pub returns-then-burn-clause-made : goal.returns-then-burn-clause-made
returns-then-burn-clause-made c = search rules
