use Rattle.gx_format.proofs.laws.LayingPhases.{clearing_leaves, laying_leaves, naming_leaves, formatting_leaves}
use Rattle.gx_format.proofs.laws.phases.Goals as goal

pub returns : goal.returns
returns g c = record {
  clearing = clearing_leaves g.D.SectorDisk.state g.met.D.SectorDisk.whole;
  laying = laying_leaves g.D.SectorDisk.state g.met.D.SectorDisk.whole;
  naming = naming_leaves g.D.SectorDisk.state g.met.D.SectorDisk.whole;
  all = formatting_leaves g.D.SectorDisk.state g.met.D.SectorDisk.whole;
}
