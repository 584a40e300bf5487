use Rattle.std.proofs.Common.{rules}
use Rattle.gx_disk.specs.Sectors.{span_of}
use Rattle.gx_disk.proofs.memory.MemDiskSectorDisk.read.Goals as goal

pub returns-clause-reads : goal.returns-clause-reads
unfolding span_of
returns-clause-reads c = search rules
