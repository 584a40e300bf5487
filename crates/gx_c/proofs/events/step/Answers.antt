use Rattle.gx_c.proofs.Stages.{undone_open}
use Rattle.gx_c.proofs.events.step.Goals as goal

pub returns-in-Plane-clause-steps : goal.returns-in-Plane-clause-steps
returns-in-Plane-clause-steps c = rw c.in-Plane.is c.step.ensures.steps

pub returns-in-Space-clause-steps : goal.returns-in-Space-clause-steps
returns-in-Space-clause-steps c = rw c.in-Space.is c.step-in-Space.ensures.steps

pub returns-in_default-clause-steps : goal.returns-in_default-clause-steps
returns-in_default-clause-steps c = undone_open _ _ _ c.in_default.not-Plane c.in_default.not-Space
