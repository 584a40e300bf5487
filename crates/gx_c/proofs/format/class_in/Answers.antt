use Rattle.std.proofs.Common.{Ok, Err, refl}
use Rattle.gx_c.proofs.format.class_in.Goals as goal

pub returns-in-Ok-clause-tells : goal.returns-in-Ok-clause-tells
returns-in-Ok-clause-tells c = record { result = Ok c.in-Ok.number; reads = c.in-Ok.ensures; class_is = refl; status_is = refl }

pub returns-in-Err-clause-tells : goal.returns-in-Err-clause-tells
returns-in-Err-clause-tells c = record { result = Err c.in-Err.why; reads = c.in-Err.ensures; class_is = refl; status_is = c.refused.ensures }
