use Rattle.std.proofs.Common.{rules}
use Rattle.gx_pool.proofs.mark.dirty_after.Goals as goal

pub returns-in-false-true : goal.returns-in-false-true
returns-in-false-true c = search rules
