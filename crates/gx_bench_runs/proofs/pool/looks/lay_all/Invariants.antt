use Rattle.std.proofs.Common.{◌≡◌}
use Rattle.gx_bench_runs.proofs.pool.looks.lay_all.Given as goal

abbrev pub invariant-loop-page : goal.invariant-loop-page
invariant-loop-page g l = (g.D.SectorDisk.state l.disk).sectors ≡ (g.D.SectorDisk.state l.fn.disk).sectors
