use Rattle.gx_c.proofs.Stages.{undone_open}
use Rattle.gx_c.proofs.transactions.ask.Goals as goal

pub returns-in-Plane : goal.returns-in-Plane
returns-in-Plane c = rw c.in-Plane.is (rw c.call_of.ensures at c.ask.ensures)

pub returns-in-Space : goal.returns-in-Space
returns-in-Space c = rw c.in-Space.is (rw c.call_of-in-Space.ensures at c.ask-in-Space.ensures)

pub returns-in_default : goal.returns-in_default
returns-in_default c = undone_open _ _ _ c.in_default.not-Plane c.in_default.not-Space
