use Rattle.std.proofs.Common.{rules}
use Rattle.gx_c.proofs.bytes.append.Goals as goal

pub returns-in-Ok : goal.returns-in-Ok
returns-in-Ok c = search rules
