use Rattle.std.proofs.Common.{refl}
use Rattle.gx_c.proofs.entries.gx_c_delete.Goals as goal

pub returns : goal.returns
returns c = rw (c.take-held.ensures.had, ← c.deref_mut.ensures.value, c.put.ensures) (c.write_plane-status.ensures, refl)
