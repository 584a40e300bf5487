use Rattle.std.proofs.Common.{inr, refl}
use Rattle.gx_commands.specs.Streams.{outputs_of}
use Rattle.gx_commands.proofs.files.Used.{room_for, used, used_for}
use Rattle.gx_commands.proofs.files.migrate_to.Goals as goal

pub returns-in-Ok : goal.returns-in-Ok
returns-in-Ok g c =
    inr (record {
      disk = c.in-Ok.disk;
      after = c.migrate_device-status.new.new;
      between = outputs_of g.W.Write.contents g.E.Write.contents c.migrate_device-status.new.writer c.migrate_device-status.new.faults;
      uses = used_for _ _ _ c.sectors_for.result _ c.in-Ok.disk c.migrate_device-status.new.new _ _ c.sectors_for.ensures
          (used _ _ c.in-Ok.disk c.migrate_device-status.new.new _ _ _ _ _ c.in-Ok.ensures.tries c.in-Ok.ensures.opened c.leave.ensures refl);
      room = room_for c.sectors_for.result _ c.in-Ok.disk.sectors c.sectors_for.ensures c.in-Ok.ensures.room;
      migrates = c.migrate_device-status.ensures;
    })
