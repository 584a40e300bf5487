use Rattle.std.proofs.Common.{refl}
use Rattle.gx_c.proofs.events.gx_c_step.Goals as goal

pub returns-clause-steps : goal.returns-clause-steps
returns-clause-steps c = rw (c.take-held.ensures.had, ← c.deref_mut.ensures.value, c.put.ensures) (c.step-status.ensures.steps, refl)
