use Rattle.std.proofs.Common.{refl}
use Rattle.gx_c.proofs.searches.gx_c_more.Goals as goal

pub returns-clause-tells : goal.returns-clause-tells
returns-clause-tells c = rw (c.take-held.ensures.had, ← c.deref_mut.ensures.value, c.put.ensures) (c.more_of_plane-status.ensures.tells, refl)
