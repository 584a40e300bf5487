use Rattle.std.proofs.Common.{◌++◌}
use Rattle.gx_queue_disk.proofs.disk.Made.{all_longer, sync_led, sync_syncs}
use Rattle.gx_queue_disk.specs.Calls.{Sync}
use Rattle.gx_queue_disk.proofs.disk.QueueDiskSectorDisk.sync.Goals as goal

pub invariant_of-self : goal.invariant_of-self
invariant_of-self c =
    let d = c.args.self.now in
    let longer = all_longer d.past.drained d.queue c.push_sync.new.self Sync c.in-Ok.ensures.ok in
    record {
      addressable = d.addressable;
      whole = d.whole;
      led = rw c.counted-self.ensures (sync_led d.sectors d.past.start (d.past.drained ++ d.queue) (d.past.drained ++ c.push_sync.new.self) d.image d.past.faults d.past.faults d.past.calls d.past.calls d.led longer);
    }

pub returns-in-Ok-clause-syncs : goal.returns-in-Ok-clause-syncs
returns-in-Ok-clause-syncs c =
    let d = c.args.self.now in
    let longer = all_longer d.past.drained d.queue c.push_sync.new.self Sync c.in-Ok.ensures.ok in
    rw c.counted-self.ensures (sync_syncs d.sectors d.past.start (d.past.drained ++ d.queue) (d.past.drained ++ c.push_sync.new.self) d.image d.past.faults _ d.past.calls _ d.led longer tt)
