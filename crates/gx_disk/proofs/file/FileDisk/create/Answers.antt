use Rattle.std.proofs.Common.{arith}
use Rattle.gx_disk.proofs.file.FileDisk.create.Goals as goal

pub returns-clause-room : goal.returns-clause-room
returns-clause-room g c = omega arith
