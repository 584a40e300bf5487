use Rattle.gx_disk.proofs.ram.Unrecorded.{synced_past, sync_settles}
use Rattle.gx_disk.proofs.ram.RamDiskSectorDisk.sync.Goals as goal

pub invariant_of-self-2 : goal.invariant_of-self-2
invariant_of-self-2 c =
    let d = c.args.self.now in let past = c.past_after-self.result in
    let kept = synced_past d.sectors d.past.calls past.calls d.past.kept past.kept d.bytes.items d.calls.count c.next-self.result.count d.fits d.sized c.past_after-self.ensures.0 c.past_after-self.ensures.1 in
    record { whole = d.whole; fits = kept.fits; sized = kept.sized }

pub returns-clause-syncs : goal.returns-clause-syncs
returns-clause-syncs c =
    let d = c.args.self.now in let past = c.past_after-self.result in
    sync_settles d.sectors d.past.calls past.calls d.past.kept past.kept d.bytes.items d.calls.count c.next-self.result.count d.fits d.sized c.past_after-self.ensures.0 c.past_after-self.ensures.1 tt
