use Rattle.gx_pool.proofs.Readable.{bringing_readable, changing_readable, creating_readable, one_not_damaged, some_not_damaged}
use Rattle.gx_pool.proofs.laws.readable.Goals as goal

pub returns : goal.returns
returns g c = record {
  one = λ disk after. one_not_damaged (g.D.SectorDisk.state disk) (g.D.SectorDisk.state after);
  several = λ disk after. some_not_damaged (g.D.SectorDisk.state disk) (g.D.SectorDisk.state after);
  bringing = bringing_readable;
  creating = creating_readable;
  changing = changing_readable;
}
