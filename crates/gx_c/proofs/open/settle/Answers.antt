use Rattle.std.proofs.Common.{rules}
use Rattle.gx_c.proofs.Stages.{undone_open}
use Rattle.gx_c.proofs.«open».settle.Goals as goal

pub returns-in-Plane : goal.returns-in-Plane
returns-in-Plane c = rw c.in-Plane.is (search rules)

pub returns-in-Space : goal.returns-in-Space
returns-in-Space c = rw c.in-Space.is c.settle-in-Space.ensures

pub returns-in_default : goal.returns-in_default
returns-in_default c = undone_open _ _ _ c.in_default.not-Plane c.in_default.not-Space
