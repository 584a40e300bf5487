use Rattle.gx_c.proofs.Stages.{undone_device}
use Rattle.gx_c.proofs.verify.verify_stage.Goals as goal

pub returns-in-Device-clause-verifies : goal.returns-in-Device-clause-verifies
returns-in-Device-clause-verifies g c = rw c.in-Device.is c.verify_disk.ensures.verifies

pub returns-in_default-clause-verifies : goal.returns-in_default-clause-verifies
returns-in_default-clause-verifies g c = undone_device _ _ c.in_default.not-Device
