use Rattle.std.proofs.Common.{Err, Ok}
use Rattle.gx_commands.proofs.migrating.migrate_over.Goals as goal

pub returns-in-Ok : goal.returns-in-Ok
returns-in-Ok g c = record { result = Ok c.in-Ok.told; migrates = c.in-Ok.ensures; told = c.tell_migrated.ensures }

pub returns-in-Err : goal.returns-in-Err
returns-in-Err g c = record { result = Err c.in-Err.why; migrates = c.in-Err.ensures; told = c.refuse.ensures }
