use Rattle.std.proofs.Common.{◌++◌}
use Rattle.gx_queue_disk.proofs.disk.Made.{all_longer, write_size, write_led, write_writes}
use Rattle.gx_queue_disk.specs.Calls.{Write}
use Rattle.gx_queue_disk.proofs.disk.QueueDiskSectorDisk.write.Goals as goal

pub invariant_of-self : goal.invariant_of-self
invariant_of-self c =
    let d = c.args.self.now in
    let longer = all_longer d.past.drained d.queue c.push_write.new.self (Write c.args.first c.args.bytes.now) c.in-Ok.ensures.ok in
    record {
      addressable = d.addressable;
      whole = write_size d.sectors d.past.start (d.past.drained ++ d.queue) (d.past.drained ++ c.push_write.new.self) d.image c.overwrite.new.self c.args.bytes.now c.args.first d.past.faults d.past.faults d.past.calls d.past.calls
          d.led d.whole c.requires longer c.overwrite.ensures;
      led = rw c.counted-self.ensures (write_led d.sectors d.past.start (d.past.drained ++ d.queue) (d.past.drained ++ c.push_write.new.self) d.image c.overwrite.new.self c.args.bytes.now c.args.first d.past.faults
          d.past.faults d.past.calls d.past.calls d.led d.whole c.requires longer c.overwrite.ensures);
    }

pub returns-in-Ok-clause-writes : goal.returns-in-Ok-clause-writes
returns-in-Ok-clause-writes c =
    let d = c.args.self.now in
    let longer = all_longer d.past.drained d.queue c.push_write.new.self (Write c.args.first c.args.bytes.now) c.in-Ok.ensures.ok in
    rw c.counted-self.ensures (write_writes d.sectors d.past.start (d.past.drained ++ d.queue) (d.past.drained ++ c.push_write.new.self) d.image c.overwrite.new.self c.args.bytes.now c.args.first d.past.faults
    _ d.past.calls _ d.led d.whole c.requires longer c.overwrite.ensures tt)
