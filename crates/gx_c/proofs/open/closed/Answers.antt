use Rattle.gx_c.proofs.«open».Closing.{closes}
use Rattle.gx_c.proofs.«open».closed.Goals as goal

pub returns : goal.returns
returns g c = closes _ _ _ _ _ _ _ c.settle-status.ensures c.into_disk.ensures
