use Rattle.std.proofs.Common.{inr, refl}
use Rattle.gx_commands.specs.Streams.{outputs_of}
use Rattle.gx_commands.proofs.files.Used.{used}
use Rattle.gx_commands.proofs.files.dump_file.Goals as goal

pub returns-in-Ok : goal.returns-in-Ok
returns-in-Ok g c =
    inr (record {
      disk = c.in-Ok.disk;
      after = c.dump_device-disk.result.0;
      between = outputs_of g.W.Write.contents g.E.Write.contents c.dump_device-disk.new.writer c.dump_device-disk.new.faults;
      uses = used _ _ c.in-Ok.disk c.dump_device-disk.result.0 _ _ _ _ _ c.in-Ok.ensures.tries c.in-Ok.ensures.opened c.leave.ensures refl;
      dumps = c.dump_device-disk.ensures;
    })
