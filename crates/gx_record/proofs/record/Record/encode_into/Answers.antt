use Rattle.std.proofs.Common.{rules, arith}
use Rattle.gx_record.specs.Seen.{rec_of}
use Rattle.gx_record.proofs.Writes.{spelling_size}
use Rattle.gx_record.proofs.record.Record.encode_into.Goals as goal

pub returns-then-out-size-clause-fits : goal.returns-then-out-size-clause-fits
returns-then-out-size-clause-fits c = search rules

pub write-requires-clause-room : goal.write-requires-clause-room
write-requires-clause-room c =
    let size = spelling_size (rec_of c.args.self.now) c.requires in
    omega (arith, size, c.length-size.ensures, c.if-out-size.false)
