use Rattle.std.proofs.Common.{◌≡◌, ◌+◌, true, drop}
use Rattle.std.specs.Prelude.{Result}
use Rattle.gx_geom.specs.declared.refusal.Refusal.{Refusal}
use Rattle.gx_found_log.specs.Given.{AreOnce}
use Rattle.gx_found_log.specs.Laid.{ArePages, Lays}
use Rattle.gx_found_log.proofs.lay.lay.Given as goal

-- the pages before this one are written; and the outcome of laying the rest is the outcome of all
abbrev pub invariant-loop-x : goal.invariant-loop-x
invariant-loop-x g l = record {
  sectors : (g.D.SectorDisk.state l.disk).sectors ≡ (g.D.SectorDisk.state l.fn.disk).sectors;
  honest : (g.D.SectorDisk.state l.disk).honest ≡ (g.D.SectorDisk.state l.fn.disk).honest;
  faults : (g.D.SectorDisk.state l.disk).faults ≡ (g.D.SectorDisk.state l.fn.disk).faults;
  calls : (g.D.SectorDisk.state l.disk).calls ≡ (g.D.SectorDisk.state l.fn.disk).calls + l.x-index;
  pages : ArePages (g.D.SectorDisk.state l.disk).sectors (drop l.x-index l.pages);
  once : AreOnce (drop l.x-index l.pages);
  on : (g.D.SectorDisk.state l.fn.disk).honest ≡ true → (result : Result (Unit {0}) Refusal) (new : g.row.D.Denot)
      → Lays (drop l.x-index l.pages) (g.D.SectorDisk.state l.disk) (g.D.SectorDisk.state new) result → Lays l.pages (g.D.SectorDisk.state l.fn.disk) (g.D.SectorDisk.state new) result;
}
