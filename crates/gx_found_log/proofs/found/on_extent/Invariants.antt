use Rattle.std.proofs.Common.{◌-◌, ◌≡◌, ◌*◌, ◌≤◌, true, length, Ok}
use Rattle.gx_record.specs.declared.sizes.TheConstants.{END_RECORD}
use Rattle.gx_glog.specs.declared.extent.TheConstants.{BODY_ROOM, PLACES}
use Rattle.gx_disk.specs.Looks.{Looks}
use Rattle.gx_found_log.specs.declared.given.TheConstants.{MOST_IN_BODY}
use Rattle.gx_recovery.specs.Known.{Limits}
use Rattle.gx_found_log.specs.Found.{ReadSoFar, ReadsAlone}
use Rattle.gx_found_log.proofs.found.on_extent.Given as goal

-- the bodies before place i are read, and nothing was done but that
abbrev pub invariant-loop-i : goal.invariant-loop-i
invariant-loop-i g l = record {
  few : l.i ≤ PLACES;
  room : length l.body ≡ length l.fn.body;
  closed : END_RECORD * length l.gathered.analysis.closed ≤ BODY_ROOM * l.i;
  given : length l.gathered.given ≤ MOST_IN_BODY * l.i;
  reads : ReadsAlone {T = Unit {0}} (g.D.SectorDisk.state l.fn.disk) (g.D.SectorDisk.state l.disk) (Ok tt);
  looks : (g.D.SectorDisk.state l.fn.disk).honest ≡ true → Looks (g.D.SectorDisk.state l.fn.disk) (g.D.SectorDisk.state l.disk);
  on : (g.D.SectorDisk.state l.fn.disk).honest ≡ true → (d : Limits) → (g.M.Meaning.known d).cmp ≡ g.M.Entry.Ord.cmp
      → ReadSoFar (g.M.Meaning.known d) g.M.Spelled.reading (g.D.SectorDisk.state l.fn.disk).seen l.extent 0 l.fn.gathered
      → ReadSoFar (g.M.Meaning.known d) g.M.Spelled.reading (g.D.SectorDisk.state l.fn.disk).seen l.extent l.i l.gathered;
}

abbrev pub decreases-loop-i : goal.decreases-loop-i
decreases-loop-i g l = PLACES - l.i
