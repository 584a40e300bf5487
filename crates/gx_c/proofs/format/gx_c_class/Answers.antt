use Rattle.std.proofs.Common.{refl}
use Rattle.gx_c.proofs.format.gx_c_class.Goals as goal

pub returns-clause-tells : goal.returns-clause-tells
returns-clause-tells c = rw (c.take-held.ensures.had, ← c.deref_mut.ensures.value, c.put.ensures) (c.class_at-status.ensures.tells, refl)
