use Rattle.std.proofs.Common.{refl}
use Rattle.gx_pool.proofs.pool.Pool.gated.Goals as goal

pub returns : goal.returns
returns g c = rw c.set_gated.ensures refl
