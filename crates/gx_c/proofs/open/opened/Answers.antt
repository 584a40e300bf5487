use Rattle.std.proofs.Common.{Ok, Err, refl}
use Rattle.gx_c.proofs.«open».opened.Goals as goal

pub returns-in-Ok : goal.returns-in-Ok
returns-in-Ok g c = record { result = Ok c.in-Ok.engine; opens = record { frames_are = c.in-Ok.ensures.frames; small = c.in-Ok.ensures.small; device = c.in-Ok.ensures.device; faults = c.in-Ok.ensures.faults; idle = c.in-Ok.ensures.idle; began = c.in-Ok.ensures.began; safe = c.in-Ok.ensures.safe; keeps = c.in-Ok.ensures.keeps; order = c.in-Ok.ensures.order; opened = c.in-Ok.ensures.opened; refused = c.in-Ok.ensures.refused; damaged = c.in-Ok.ensures.damaged }; left_is = (refl, rw c.requires at c.new.ensures) }

pub returns-in-Err : goal.returns-in-Err
returns-in-Err g c = record { result = Err c.in-Err.left; opens = record { frames_are = c.in-Err.ensures.frames; small = c.in-Err.ensures.small; device = c.in-Err.ensures.device; faults = c.in-Err.ensures.faults; idle = c.in-Err.ensures.idle; began = c.in-Err.ensures.began; safe = c.in-Err.ensures.safe; keeps = c.in-Err.ensures.keeps; order = c.in-Err.ensures.order; opened = c.in-Err.ensures.opened; refused = c.in-Err.ensures.refused; damaged = c.in-Err.ensures.damaged }; left_is = (c.refused.ensures, refl) }
