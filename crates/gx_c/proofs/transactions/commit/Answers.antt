use Rattle.gx_c.proofs.Stages.{undone_open}
use Rattle.gx_c.proofs.transactions.commit.Goals as goal

pub returns-in-Plane-clause-commits : goal.returns-in-Plane-clause-commits
returns-in-Plane-clause-commits c = rw c.in-Plane.is c.commit.ensures.commits

pub returns-in-Space-clause-commits : goal.returns-in-Space-clause-commits
returns-in-Space-clause-commits c = rw c.in-Space.is c.commit-in-Space.ensures.commits

pub returns-in_default-clause-commits : goal.returns-in_default-clause-commits
returns-in_default-clause-commits c = undone_open _ _ _ c.in_default.not-Plane c.in_default.not-Space
