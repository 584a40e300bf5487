use Rattle.std.proofs.Common.{inr, refl}
use Rattle.gx_commands.specs.Streams.{outputs_of}
use Rattle.gx_commands.proofs.files.Used.{used}
use Rattle.gx_commands.proofs.files.verify_file.Goals as goal

pub returns-in-Ok : goal.returns-in-Ok
returns-in-Ok g c =
    inr (record {
      disk = c.in-Ok.disk;
      after = c.verify_device-status.new.disk;
      between = outputs_of g.W.Write.contents g.E.Write.contents c.verify_device-status.new.writer c.verify_device-status.new.faults;
      uses = used _ _ c.in-Ok.disk c.verify_device-status.new.disk _ _ _ _ _ c.in-Ok.ensures.tries c.in-Ok.ensures.opened c.leave.ensures refl;
      verifies = c.verify_device-status.ensures;
    })
