use Rattle.std.proofs.Common.{refl}
use Rattle.gx_c.proofs.bytes.gx_c_device.Goals as goal

pub returns : goal.returns
returns c = rw (c.take-held.ensures.had, ← c.deref_mut.ensures.value, c.put.ensures) (c.device-status.ensures, refl)
