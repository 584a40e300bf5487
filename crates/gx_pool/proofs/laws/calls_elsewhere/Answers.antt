use Rattle.gx_pool.proofs.Elsewhere.{elsewhere_backed, elsewhere_readable, elsewhere_reads, elsewhere_settled, elsewhere_shown, rest_leaves}
use Rattle.gx_pool.proofs.laws.calls_elsewhere.Goals as goal

pub returns : goal.returns
returns g c = record {
  rest = λ disk after. rest_leaves (g.D.SectorDisk.state disk) (g.D.SectorDisk.state after);
  bytes = λ disk after. elsewhere_reads (g.D.SectorDisk.state disk) (g.D.SectorDisk.state after);
  backed = λ disk after. elsewhere_backed (g.D.SectorDisk.state disk) (g.D.SectorDisk.state after);
  shown = λ disk after. elsewhere_shown (g.D.SectorDisk.state disk) (g.D.SectorDisk.state after);
  settled = λ disk after. elsewhere_settled (g.D.SectorDisk.state disk) (g.D.SectorDisk.state after);
  readable = λ disk after. elsewhere_readable (g.D.SectorDisk.state disk) (g.D.SectorDisk.state after);
}
