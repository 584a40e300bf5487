use Rattle.std.proofs.Common.{refl}
use Rattle.gx_pool.proofs.pool.Pool.with_capacity.Goals as goal

pub returns : goal.returns
returns g c = (c.in_ok-with_capacity.ensures, refl)
