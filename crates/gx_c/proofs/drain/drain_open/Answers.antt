use Rattle.std.proofs.Common.{refl}
use Rattle.gx_c.proofs.drain.drain_open.Goals as goal

pub returns : goal.returns
returns g c =
    rw (← c.index.view_is) (record { drains = c.drain.ensures.drains; only = c.drain.ensures.only; leads = c.drain.ensures.leads; device = c.drain.ensures.device; found = refl })
