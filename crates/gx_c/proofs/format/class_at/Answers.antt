use Rattle.gx_c.proofs.Stages.{undone_device}
use Rattle.gx_c.proofs.format.class_at.Goals as goal

pub returns-in-Device-clause-tells : goal.returns-in-Device-clause-tells
returns-in-Device-clause-tells c = rw c.in-Device.is c.class_in.ensures.tells

pub returns-in_default-clause-tells : goal.returns-in_default-clause-tells
returns-in_default-clause-tells c = undone_device _ _ c.in_default.not-Device
