use Rattle.std.proofs.Common.{rules}
use Rattle.gx_pool.proofs.mark.later.Goals as goal

pub returns-in-Some : goal.returns-in-Some
returns-in-Some c = search rules
