use Rattle.std.proofs.Common.{◌≡◌, ◌∙◌, length, rules}
use Rattle.gx_opening.proofs.formatted.Sectors.{sector_read}
use Rattle.gx_opening.proofs.formatted.sector.Goals as goal

pub returns-clause-bytes : goal.returns-clause-bytes
returns-clause-bytes g c = λ honest.
    (let long : length c.read.new.buffer ≡ 512 = search rules in
    (c.in_ok-read.ensures.reads honest).read ∙ sector_read (g.D.SectorDisk.state c.args.disk.now).seen c.args.number (length c.read.new.buffer) long)
