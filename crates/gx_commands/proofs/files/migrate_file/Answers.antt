use Rattle.std.proofs.Common.{inr, refl}
use Rattle.gx_commands.specs.Streams.{outputs_of}
use Rattle.gx_commands.proofs.files.migrate_file.Goals as goal

pub returns-in-Ok : goal.returns-in-Ok
returns-in-Ok g c =
    inr (record {
      disk = c.in-Ok.disk;
      after = c.migrate_older-status.new.old;
      begun = c.open.new.self;
      ended = c.migrate_older-status.new.opener;
      between = outputs_of g.W.Write.contents g.E.Write.contents c.migrate_older-status.new.writer c.migrate_older-status.new.faults;
      tries = c.in-Ok.ensures.tries;
      opened = c.in-Ok.ensures.opened;
      unkept = c.in-Ok.ensures.left;
      follows = c.migrate_older-status.ensures;
      leaves = c.leave.ensures;
      quiet = refl;
    })
