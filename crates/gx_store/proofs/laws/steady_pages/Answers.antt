use Rattle.gx_store.proofs.Shown.{stands_shown}
use Rattle.gx_store.proofs.laws.steady_pages.Goals as goal

pub returns : goal.returns
returns g c = λ disk frames page steady. stands_shown frames (g.D.SectorDisk.state disk).seen page steady.backed
