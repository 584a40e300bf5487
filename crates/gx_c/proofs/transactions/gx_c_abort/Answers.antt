use Rattle.std.proofs.Common.{refl}
use Rattle.gx_c.proofs.transactions.gx_c_abort.Goals as goal

pub returns : goal.returns
returns c = rw (c.take-held.ensures.had, ← c.deref_mut.ensures.value, c.put.ensures) (c.ask-status.ensures, refl)
