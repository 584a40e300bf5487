use Rattle.std.proofs.Common.{refl}
use Rattle.gx_c.proofs.«open».gx_c_open.Goals as goal

pub returns : goal.returns
returns c = rw (c.take-held.ensures.had, ← c.deref_mut.ensures.value, c.put.ensures) (c.open_plane-status.ensures, refl)
