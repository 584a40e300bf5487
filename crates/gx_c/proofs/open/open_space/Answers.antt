use Rattle.gx_c.proofs.«open».Undone.{undone_opens_space}
use Rattle.gx_c.proofs.«open».open_space.Goals as goal

pub returns-in-Device : goal.returns-in-Device
returns-in-Device c = rw (← c.in-Device.ensures.had, c.put.ensures) c.space_of-left.ensures

pub returns-in_default : goal.returns-in_default
returns-in_default c = rw (c.put-in_default.ensures, ← c.take.ensures.had) (undone_opens_space _ _ _ _ _ c.in_default.not-Device)
