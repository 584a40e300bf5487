use Rattle.std.proofs.Common.{sym}
use Rattle.gx_machine.proofs.sets.has_in_order.Goals as goal

pub returns-in-Ok : goal.returns-in-Ok
returns-in-Ok g c = sym c.in-Ok.ensures.has
