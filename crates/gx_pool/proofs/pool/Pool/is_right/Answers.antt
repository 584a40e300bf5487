use Rattle.std.proofs.Common.{rules}
use Rattle.gx_pool.proofs.pool.Pool.is_right.Goals as goal

pub returns-then-is_its_own-clause-yes : goal.returns-then-is_its_own-clause-yes
returns-then-is_its_own-clause-yes g c = search rules
