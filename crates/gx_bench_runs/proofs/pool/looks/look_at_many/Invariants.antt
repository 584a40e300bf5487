use Rattle.std.proofs.Common.{◌≤◌, ◌+◌, ◌*◌}
use Rattle.gx_disk.specs.declared.layout.TheConstants.{PAGES_AT, PAGE_SECTORS}
use Rattle.gx_bench_runs.proofs.pool.looks.look_at_many.Given as goal

abbrev pub invariant-loop-look : goal.invariant-loop-look
invariant-loop-look g l = PAGES_AT + PAGE_SECTORS * l.pages ≤ (g.D.SectorDisk.state l.disk).sectors
