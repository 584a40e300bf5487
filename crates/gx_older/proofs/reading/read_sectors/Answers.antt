use Rattle.std.proofs.Common.{◌≡◌, ◌∙◌, ap, length, rules}
use Rattle.gx_disk.specs.Sectors.{span_of}
use Rattle.gx_older.proofs.reading.read_sectors.Goals as goal

pub returns-clause-bytes : goal.returns-clause-bytes
returns-clause-bytes g c = λ honest.
    (let same : length c.read.new.buffer ≡ length c.args.bytes.now = search rules in
    (c.in_ok-read.ensures.reads honest).read ∙ ap (λ n. span_of (g.D.SectorDisk.state c.args.disk.now).seen c.args.first n) same)
