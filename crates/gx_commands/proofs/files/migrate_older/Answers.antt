use Rattle.std.proofs.Common.{inl, inr, refl}
use Rattle.gx_commands.proofs.files.migrate_older.Goals as goal

pub returns-in-Ok : goal.returns-in-Ok
returns-in-Ok g c = inl (record { kind = c.in-Ok.found.0; pages = c.in-Ok.found.1; told = c.kind_of_old.new.disk; finds = c.in-Ok.ensures; ends = c.migrate_to.ensures })

pub returns-in-Err : goal.returns-in-Err
returns-in-Err g c = inr (record { why = c.in-Err.why; finds = c.in-Err.ensures; unopened = refl; told = c.refuse.ensures })
