use Rattle.std.proofs.Common.{sym}
use Rattle.gx_disk.proofs.tally.counted.Goals as goal

pub returns-in-Err-clause-outcome : goal.returns-in-Err-clause-outcome
returns-in-Err-clause-outcome c = sym c.in-Err.is

pub returns-in-Err-clause-faults : goal.returns-in-Err-clause-faults
returns-in-Err-clause-faults c = rw c.in-Err.is c.next.ensures
