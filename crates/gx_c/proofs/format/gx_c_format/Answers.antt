use Rattle.std.proofs.Common.{refl}
use Rattle.gx_c.proofs.format.gx_c_format.Goals as goal

pub returns : goal.returns
returns c = rw (c.take-held.ensures.had, ← c.deref_mut.ensures.value, c.put.ensures) (c.format_stage-status.ensures, refl)
