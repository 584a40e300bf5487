use Rattle.std.proofs.Common.{◌/◌, length, arith}
use Rattle.gx_disk.proofs.ram.Unrecorded.{written_size, written_past, write_pends}
use Rattle.gx_disk.proofs.ram.RamDiskSectorDisk.write.Goals as goal

pub invariant_of-self-2 : goal.invariant_of-self-2
invariant_of-self-2 c =
    let d = c.args.self.now in let past = c.past_after-self.result in
    let whole = written_size d.sectors d.past.calls past.calls d.past.kept past.kept d.bytes.items c.overwrite.new.bytes.items c.args.bytes.now c.args.first (length c.args.bytes.now / 512) d.calls.count
    c.next-self.result.count d.fits d.sized d.whole c.requires (omega (arith, c.requires.whole)) c.past_after-self.ensures.0 c.past_after-self.ensures.1 c.overwrite.ensures in
    let kept = written_past d.sectors d.past.calls past.calls d.past.kept past.kept d.bytes.items c.overwrite.new.bytes.items c.args.bytes.now c.args.first (length c.args.bytes.now / 512) d.calls.count
    c.next-self.result.count d.fits d.sized d.whole c.requires (omega (arith, c.requires.whole)) c.past_after-self.ensures.0 c.past_after-self.ensures.1 c.overwrite.ensures in
    record { whole = whole; fits = kept.fits; sized = kept.sized }

pub returns-clause-writes : goal.returns-clause-writes
returns-clause-writes c =
    let d = c.args.self.now in let past = c.past_after-self.result in
    write_pends d.sectors d.past.calls past.calls d.past.kept past.kept d.bytes.items c.overwrite.new.bytes.items c.args.bytes.now c.args.first (length c.args.bytes.now / 512) d.calls.count
    c.next-self.result.count d.fits d.sized d.whole c.requires (omega (arith, c.requires.whole)) c.past_after-self.ensures.0 c.past_after-self.ensures.1 c.overwrite.ensures tt
