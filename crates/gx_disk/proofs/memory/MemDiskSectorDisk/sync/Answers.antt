use Rattle.std.proofs.Common.{◌≡◌, length, arith}
use Rattle.gx_disk.proofs.Calls.{sync_kept, sync_syncs}
use Rattle.gx_disk.proofs.memory.MemDiskSectorDisk.sync.Goals as goal

pub invariant_of-self-clause-recorded : goal.invariant_of-self-clause-recorded
invariant_of-self-clause-recorded c =
    let d = c.args.self.now in
    let calls : c.len-self.result ≡ length c.remember.new.past.items = omega (arith, c.remember.new.past.ok.0) in
    let kept : c.len-self-in-Ok.result ≡ length c.remember.new.kept.items = omega (arith, c.remember.new.kept.ok.0) in
    rw (calls, kept) (sync_kept d.sectors d.past.items c.remember.new.past.items d.kept.items c.remember.new.kept.items d.bytes.items d.faults.count d.calls.count c.next-self.result.count d.synced d.synced_size d.recorded c.in-Ok.ensures.ok.0 c.in-Ok.ensures.ok.1)

pub returns-in-Ok-clause-syncs : goal.returns-in-Ok-clause-syncs
returns-in-Ok-clause-syncs c =
    let d = c.args.self.now in
    sync_syncs d.sectors d.past.items c.remember.new.past.items d.kept.items c.remember.new.kept.items d.bytes.items d.faults.count d.calls.count c.next-self.result.count d.synced d.synced_size d.recorded c.in-Ok.ensures.ok.0 c.in-Ok.ensures.ok.1 tt

pub returns-in-Ok-clause-left : goal.returns-in-Ok-clause-left
returns-in-Ok-clause-left c calls bytes room = c.in-Ok.ensures.room calls bytes (record { calls_fit = room.calls_fit; bytes_fit = omega (arith, room.bytes_fit) })
