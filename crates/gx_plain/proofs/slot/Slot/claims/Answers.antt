use Rattle.std.proofs.Common.{rules}
use Rattle.gx_plain.proofs.slot.Slot.claims.Goals as goal

pub returns-in-Open : goal.returns-in-Open
returns-in-Open g c = search rules
