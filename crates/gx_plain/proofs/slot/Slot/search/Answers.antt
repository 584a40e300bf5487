use Rattle.std.proofs.Common.{rules}
use Rattle.gx_plain.proofs.slot.Slot.search.Goals as goal

pub returns-clause-closes : goal.returns-clause-closes
returns-clause-closes g c = search rules
