use Rattle.std.proofs.Common.{rules}
use Rattle.gx_plain.proofs.slot.Slot.begins.Goals as goal

pub returns-in-Idle : goal.returns-in-Idle
returns-in-Idle g c = search rules
