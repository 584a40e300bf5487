use Rattle.std.proofs.Common.{ap, length, arith, rules}
use Rattle.gx_disk.proofs.memory.Crashes.{since_sync, since_room, crash_of_device, crash_image}
use Rattle.gx_disk.proofs.memory.MemDisk.crash.Goals as goal

pub behind-calls-requires : goal.behind-calls-requires
behind-calls-requires c = omega (arith, c.args.self.now.recorded.since, ap length c.deref.ensures.value)

pub behind-kept-requires : goal.behind-kept-requires
behind-kept-requires c = let d = c.args.self.now in
    omega (arith, since_room d.sectors d.past.items d.kept.items d.synced d.synced_size d.recorded, ap length c.deref-2.ensures.value)

pub tear-requires-clause-fits : goal.tear-requires-clause-fits
tear-requires-clause-fits c = let d = c.args.self.now in
    rw (c.behind-calls.ensures, c.deref.ensures.value) (since_sync d.sectors d.past.items d.kept.items d.synced d.synced_size d.recorded).fits

pub tear-requires-clause-sized : goal.tear-requires-clause-sized
tear-requires-clause-sized c = let d = c.args.self.now in
    rw (c.behind-calls.ensures, c.deref.ensures.value, c.behind-kept.ensures, c.deref-2.ensures.value) (since_sync d.sectors d.past.items d.kept.items d.synced d.synced_size d.recorded).sized

pub returns-clause-crash : goal.returns-clause-crash
returns-clause-crash c = let d = c.args.self.now in
    crash_of_device d.sectors d.past.items d.kept.items d.bytes.items c.tear.new.bytes.items c.args.torn.now d.synced d.synced_size d.recorded
    (rw (c.behind-calls.ensures, c.deref.ensures.value, c.behind-kept.ensures, c.deref-2.ensures.value) at c.tear.ensures)

pub returns-clause-image : goal.returns-clause-image
returns-clause-image c = let d = c.args.self.now in
    crash_image d.sectors _ c.args.torn.now _ d.bytes.items c.tear.new.bytes.items (returns-clause-crash c) d.whole

pub returns-clause-counts : goal.returns-clause-counts
returns-clause-counts c = search rules
