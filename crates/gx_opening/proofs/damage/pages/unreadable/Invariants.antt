use Rattle.std.proofs.Common.{◌≡◌, ℕ, ◌≤◌, ◌<◌, true, None}
use Rattle.gx_node.specs.Reading.{format_of, is_node}
use Rattle.gx_pool.specs.Area.{IsPassing, bytes_of}
use Rattle.gx_pool.specs.Bringing.{OnlyRead}
use Rattle.gx_pool.specs.State.{kept}
use Rattle.gx_opening.proofs.damage.pages.unreadable.Given as goal

abbrev pub invariant-loop-before : goal.invariant-loop-before
invariant-loop-before g l = record {
  read : OnlyRead (g.D.SectorDisk.state l.fn.disk) (g.D.SectorDisk.state l.disk);
  faults : (g.D.SectorDisk.state l.disk).faults ≡ (g.D.SectorDisk.state l.fn.disk).faults;
  test : l.pool.test.pages ≡ l.fn.pool.test.pages;
  later : (page : ℕ) → l.before < page → kept l.pool.frames page ≡ None;
  passed : (g.D.SectorDisk.state l.fn.disk).honest ≡ true → (page : ℕ) → 1 ≤ page → page ≤ l.before
      → IsPassing (is_node (format_of g.K.KeyClass) l.fn.pool.test.pages) page (bytes_of (g.D.SectorDisk.state l.fn.disk).seen page);
}
