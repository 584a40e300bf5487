use Rattle.gx_c.proofs.Stages.{undone_device}
use Rattle.gx_c.proofs.format.format_stage.Goals as goal

pub returns-in-Device : goal.returns-in-Device
returns-in-Device g c = rw c.in-Device.is c.format_disk.ensures

pub returns-in_default : goal.returns-in_default
returns-in_default g c = undone_device _ _ c.in_default.not-Device
