use Rattle.std.proofs.Common.{refl}
use Rattle.gx_plain.proofs.slot.Slot.seal_open.Goals as goal

pub returns-clause-session : goal.returns-clause-session
returns-clause-session g c = refl

pub returns-clause-commits : goal.returns-clause-commits
returns-clause-commits g c = refl
