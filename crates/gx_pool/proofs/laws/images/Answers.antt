use Rattle.gx_pool.proofs.Gated.{images_agree}
use Rattle.gx_pool.proofs.laws.images.Goals as goal

pub returns : goal.returns
returns g c = λ disk. images_agree (g.D.SectorDisk.state disk)
