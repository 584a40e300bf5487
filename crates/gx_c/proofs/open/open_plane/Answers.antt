use Rattle.gx_c.proofs.«open».Undone.{undone_opens_plane}
use Rattle.gx_c.proofs.«open».open_plane.Goals as goal

pub returns-in-Device : goal.returns-in-Device
returns-in-Device c = rw (← c.in-Device.ensures.had, c.put.ensures) c.plane_of-left.ensures

pub returns-in_default : goal.returns-in_default
returns-in_default c = rw (c.put-in_default.ensures, ← c.take.ensures.had) (undone_opens_plane _ _ _ _ _ c.in_default.not-Device)
