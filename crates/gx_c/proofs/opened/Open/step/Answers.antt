use Rattle.std.proofs.Common.{refl}
use Rattle.gx_c.proofs.opened.Open.step.Goals as goal

pub returns-in-Some-clause-steps : goal.returns-in-Some-clause-steps
returns-in-Some-clause-steps g c = rw (← c.in-Some.ensures) c.make.ensures.makes

pub returns-in-None-clause-steps : goal.returns-in-None-clause-steps
returns-in-None-clause-steps g c = rw (← c.in-None.ensures) (refl, refl)
