use Rattle.std.proofs.Common.{arith}
use Rattle.gx_record.proofs.SlotBytes.{length-slots_in}
use Rattle.gx_record.proofs.slots.Slots.count.Goals as goal

pub returns : goal.returns
returns c = let two = length-slots_in c.args.self.now.bytes.now in omega (arith, two.0, two.1)
