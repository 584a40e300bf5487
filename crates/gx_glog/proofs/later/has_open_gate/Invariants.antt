use Rattle.std.proofs.Common.{ℕ, ◌+◌, ◌-◌, ◌≡◌, ◌<◌, ◌≤◌, true, false, Ok}
use Rattle.gx_disk.specs.Device.{Counts}
use Rattle.gx_disk.specs.Looks.{Looks}
use Rattle.gx_geom.specs.declared.refusal.Refusal.{Refusal}
use Rattle.gx_glog.specs.declared.extent.TheConstants.{PLACES}
use Rattle.gx_glog.specs.Layout.{is_open}
use Rattle.gx_glog.proofs.later.has_open_gate.Given as goal

-- the gates before place i are closed, and nothing was done but reading them
abbrev pub invariant-loop-i : goal.invariant-loop-i
invariant-loop-i g l = record {
  few : l.i ≤ PLACES + 1;
  later : l.from ≤ l.i;
  counts : Counts {T = Unit {0}} {E = Refusal} 0 (g.D.SectorDisk.state l.fn.disk) (g.D.SectorDisk.state l.disk) (Ok tt);
  looks : (g.D.SectorDisk.state l.fn.disk).honest ≡ true → Looks (g.D.SectorDisk.state l.fn.disk) (g.D.SectorDisk.state l.disk);
  closed : (g.D.SectorDisk.state l.fn.disk).honest ≡ true → (k : ℕ) → l.from ≤ k → k < l.i → is_open (g.D.SectorDisk.state l.fn.disk).seen l.extent k ≡ false;
}

abbrev pub decreases-loop-i : goal.decreases-loop-i
decreases-loop-i g l = PLACES - l.i
