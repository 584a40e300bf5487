use Rattle.std.proofs.Common.{rules}
use Rattle.gx_tree.proofs.sweep.is_unclaimed.Goals as goal

pub returns-then-marked : goal.returns-then-marked
returns-then-marked g c = search rules
