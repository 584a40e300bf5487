use Rattle.std.proofs.Common.{◌≡◌, length}
use Rattle.gx_record.specs.Slots.{slots_in, rise_from}
use Rattle.gx_record.proofs.slots.Slots.rise.Given as goal

abbrev pub invariant-loop-bytes : goal.invariant-loop-bytes
invariant-loop-bytes l = rise_from 0 (slots_in l.fn.self.bytes.now) ≡ rise_from l.least (slots_in l.bytes)

abbrev pub decreases-loop-bytes : goal.decreases-loop-bytes
decreases-loop-bytes l = length l.bytes
