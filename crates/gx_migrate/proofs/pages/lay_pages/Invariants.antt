use Rattle.std.proofs.Common.{◌≡◌, ◌≤◌}
use Rattle.gx_format.specs.Calls.{HasRun}
use Rattle.gx_migrate.specs.Migrating.{page_writes}
use Rattle.gx_migrate.proofs.pages.lay_pages.Given as goal

-- the pages before are written
abbrev pub invariant-loop-before : goal.invariant-loop-before
invariant-loop-before g l = record {
  sectors : (g.D.SectorDisk.state l.disk).sectors ≡ (g.D.SectorDisk.state l.fn.disk).sectors;
  run : HasRun g.D.SectorDisk.state (page_writes l.bytes l.before) l.fn.disk l.disk;
}
