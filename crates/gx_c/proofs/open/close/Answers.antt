use Rattle.gx_c.proofs.«open».Undone.{undone_closes}
use Rattle.gx_c.proofs.«open».close.Goals as goal

pub returns-in-Plane : goal.returns-in-Plane
returns-in-Plane c = rw (← c.in-Plane.ensures.had, c.put.ensures) c.closed-disk.ensures

pub returns-in-Space : goal.returns-in-Space
returns-in-Space c = rw (← c.in-Space.ensures.had, c.put-in-Space.ensures) c.closed-disk-in-Space.ensures

pub returns-in_default : goal.returns-in_default
returns-in_default c = rw (c.put-in_default.ensures, ← c.take.ensures.had) (undone_closes _ _ _ _ _ _ c.in_default.not-Plane c.in_default.not-Space)
