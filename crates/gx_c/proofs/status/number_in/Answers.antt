use Rattle.std.proofs.Common.{rules}
use Rattle.gx_c.proofs.status.number_in.Goals as goal

pub returns-in-Committed : goal.returns-in-Committed
returns-in-Committed g c = search rules
