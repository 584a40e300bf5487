use Rattle.std.proofs.Common.{refl}
use Rattle.gx_c.proofs.verify.gx_c_verify.Goals as goal

pub returns-clause-verifies : goal.returns-clause-verifies
returns-clause-verifies c = rw (c.take-held.ensures.had, ← c.deref_mut.ensures.value, c.put.ensures) (c.verify_stage-status.ensures.verifies, refl)
