use Rattle.std.proofs.Common.{refl}
use Rattle.gx_c.proofs.transactions.gx_c_commit.Goals as goal

pub returns-clause-commits : goal.returns-clause-commits
returns-clause-commits c = rw (c.take-held.ensures.had, ← c.deref_mut.ensures.value, c.put.ensures) (c.commit-status.ensures.commits, refl)
