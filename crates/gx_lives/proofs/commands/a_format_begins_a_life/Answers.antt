use Rattle.gx_lives.proofs.commands.OverDevices.{new_by}
use Rattle.gx_lives.proofs.commands.a_format_begins_a_life.Goals as goal

pub returns : goal.returns
returns g c = λ p disk after from to honest is. new_by g.K.KeyClass _ g.D.SectorDisk.state p disk after honest from to is
