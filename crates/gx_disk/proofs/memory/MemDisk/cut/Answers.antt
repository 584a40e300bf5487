use Rattle.gx_disk.specs.Memory.{total_kept, pending_after, fit_all}
use Rattle.std.proofs.Common.{rules}
use Rattle.gx_disk.proofs.memory.MemDisk.cut.Goals as goal

pub returns-clause-bytes : goal.returns-clause-bytes
returns-clause-bytes c = c.truncate.ensures.items

pub returns-clause-counts : goal.returns-clause-counts
unfolding total_kept pending_after fit_all
returns-clause-counts c = search rules
