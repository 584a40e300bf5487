use Rattle.std.proofs.Common.{Ok, Err, refl}
use Rattle.gx_c.proofs.entries.write_box.Goals as goal

pub returns-in-Ok : goal.returns-in-Ok
returns-in-Ok c = record { key = Ok c.in-Ok.key; is = c.in-Ok.ensures; writes = rw c.writing_of.ensures at c.ask.ensures }

pub returns-in-Err : goal.returns-in-Err
returns-in-Err c = record { key = Err c.in-Err.why; is = c.in-Err.ensures; writes = (c.refused.ensures, refl) }
