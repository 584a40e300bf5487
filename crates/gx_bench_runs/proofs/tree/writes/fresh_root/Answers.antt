use Rattle.std.proofs.Common.{arith}
use Rattle.gx_bench_runs.proofs.tree.writes.fresh_root.Goals as goal

pub append-requires-clause-inner : goal.append-requires-clause-inner
append-requires-clause-inner g c = rw c.in-Ok.ensures.page (c.blanks.ensures.1 1 1 2 (omega arith))
