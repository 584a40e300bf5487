use Rattle.std.proofs.lemmas.Grind.{common_steps}
use Rattle.std.proofs.Common.{arith}
use Rattle.gx_plain.proofs.slot.Slot.seal.Goals as goal

pub returns-in-Open-Some-Commit-clause-room : goal.returns-in-Open-Some-Commit-clause-room
returns-in-Open-Some-Commit-clause-room g c = grind (arith, common_steps)

pub returns-in-Open-Some-Commit-clause-opened : goal.returns-in-Open-Some-Commit-clause-opened
returns-in-Open-Some-Commit-clause-opened g c = grind (arith, common_steps)
