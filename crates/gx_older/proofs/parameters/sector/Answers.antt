use Rattle.std.proofs.Common.{◌∙◌, refl}
use Rattle.gx_older.proofs.parameters.SectorRead.{sector_read}
use Rattle.gx_older.proofs.parameters.sector.Goals as goal

pub returns-clause-bytes : goal.returns-clause-bytes
returns-clause-bytes g c = λ honest. c.in_ok-read_sectors.ensures.bytes honest ∙ sector_read (g.D.SectorDisk.state c.args.disk.now).seen c.args.number _ refl
