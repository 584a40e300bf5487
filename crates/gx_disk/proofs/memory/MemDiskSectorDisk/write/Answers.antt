use Rattle.std.proofs.lemmas.Grind.{common_steps}
use Rattle.std.proofs.Common.{◌∙◌, ◌*◌, ◌/◌, ap, length, drop, arith}
use Rattle.std.proofs.lemmas.List.{length-take}
use Rattle.gx_disk.proofs.Calls.{write_size, write_kept, write_writes}
use Rattle.gx_disk.proofs.memory.MemDiskSectorDisk.write.Goals as goal

pub invariant_of-self-clause-whole : goal.invariant_of-self-clause-whole
invariant_of-self-clause-whole c =
    let d = c.args.self.now in
    write_size d.sectors d.past.items c.remember.new.past.items d.kept.items c.remember.new.kept.items d.bytes.items c.overwrite.new.bytes.items c.args.bytes.now
    c.args.first (length c.args.bytes.now / 512) c.changed-kept.result d.faults.count d.calls.count c.next-self.result.count d.synced d.synced_size d.recorded
    d.whole c.requires (omega (arith, c.requires.whole)) c.changed-kept.ensures.within (rw (c.part.ensures, c.deref.ensures.value) at c.changed-kept.ensures.same) c.in-Ok.ensures.ok.0 (rw (c.part-overwritten.ensures, c.deref-2.ensures.value) at c.in-Ok.ensures.ok.1) c.overwrite.ensures

pub invariant_of-self-clause-recorded : goal.invariant_of-self-clause-recorded
invariant_of-self-clause-recorded c =
    let d = c.args.self.now in
    write_kept d.sectors d.past.items c.remember.new.past.items d.kept.items c.remember.new.kept.items d.bytes.items c.overwrite.new.bytes.items c.args.bytes.now
    c.args.first (length c.args.bytes.now / 512) c.changed-kept.result d.faults.count d.calls.count c.next-self.result.count d.synced d.synced_size d.recorded
    d.whole c.requires (omega (arith, c.requires.whole)) c.changed-kept.ensures.within (rw (c.part.ensures, c.deref.ensures.value) at c.changed-kept.ensures.same) c.in-Ok.ensures.ok.0 (rw (c.part-overwritten.ensures, c.deref-2.ensures.value) at c.in-Ok.ensures.ok.1) c.overwrite.ensures

pub returns-in-Ok-clause-writes : goal.returns-in-Ok-clause-writes
returns-in-Ok-clause-writes c =
    let d = c.args.self.now in
    write_writes d.sectors d.past.items c.remember.new.past.items d.kept.items c.remember.new.kept.items d.bytes.items c.overwrite.new.bytes.items c.args.bytes.now
    c.args.first (length c.args.bytes.now / 512) c.changed-kept.result d.faults.count d.calls.count c.next-self.result.count d.synced d.synced_size d.recorded
    d.whole c.requires (omega (arith, c.requires.whole)) c.changed-kept.ensures.within (rw (c.part.ensures, c.deref.ensures.value) at c.changed-kept.ensures.same) c.in-Ok.ensures.ok.0 (rw (c.part-overwritten.ensures, c.deref-2.ensures.value) at c.in-Ok.ensures.ok.1) c.overwrite.ensures tt

pub returns-in-Ok-clause-left : goal.returns-in-Ok-clause-left
returns-in-Ok-clause-left c calls bytes room =
    let few = ap length c.part-overwritten.ensures ∙ length-take (512 * c.changed-kept.result) (drop (512 * c.args.first) c.deref-2.result.now) in
    c.in-Ok.ensures.room calls bytes (record { calls_fit = room.calls_fit; bytes_fit = omega (arith, room.bytes_fit, few, c.changed-kept.ensures.within) })

pub changed-kept-requires-clause-sizes : goal.changed-kept-requires-clause-sizes
changed-kept-requires-clause-sizes c = grind (arith, common_steps)

pub returns-in-Err-clause-room : goal.returns-in-Err-clause-room
returns-in-Err-clause-room c = grind (arith, common_steps)

pub returns-in-Err-clause-left : goal.returns-in-Err-clause-left
returns-in-Err-clause-left c = grind (arith, common_steps)
