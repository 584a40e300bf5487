use Rattle.std.proofs.Common.{refl}
use Rattle.gx_c.proofs.bytes.Undone.{undone_makes}
use Rattle.gx_c.proofs.bytes.device.Goals as goal

pub returns-in-Bytes : goal.returns-in-Bytes
returns-in-Bytes c =
    rw (← c.in-Bytes.ensures.had, c.put.ensures) (refl, record { sectors = c.new.ensures.sectors; image = c.new.ensures.image; queue = c.new.ensures.queue; past = c.new.ensures.past })

pub returns-in_default : goal.returns-in_default
returns-in_default c = rw (c.put-in_default.ensures, ← c.take.ensures.had) (undone_makes _ c.in_default.not-Bytes)
