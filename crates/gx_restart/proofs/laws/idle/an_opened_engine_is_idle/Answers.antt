use Rattle.gx_restart.proofs.laws.idle.Idle.{opened_idle}
use Rattle.gx_restart.proofs.laws.idle.an_opened_engine_is_idle.Goals as goal

pub returns : goal.returns
returns g c = λ disk engine opened.
    opened_idle _ _ _ _ c.a_class_is_lawful.ensures _ (g.D.SectorDisk.state disk) (g.D.SectorDisk.state engine.volume.shelf.disk) engine opened
