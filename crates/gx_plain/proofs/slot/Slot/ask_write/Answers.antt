use Rattle.std.proofs.lemmas.Grind.{common_steps}
use Rattle.std.proofs.Common.{arith}
use Rattle.gx_plain.proofs.slot.Slot.ask_write.Goals as goal

pub invariant_of-self : goal.invariant_of-self
invariant_of-self g c = grind (arith, common_steps)

pub invariant_of-self-else-claim : goal.invariant_of-self-else-claim
invariant_of-self-else-claim g c = grind (arith, common_steps)
