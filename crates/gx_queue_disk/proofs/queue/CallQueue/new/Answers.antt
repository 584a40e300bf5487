use Rattle.gx_queue_disk.proofs.queue.Outlines.{none_left, nothing_kept}
use Rattle.gx_queue_disk.proofs.queue.CallQueue.new.Goals as goal
use Rattle.std.proofs.Common.{ap, length, arith}

pub invariant_of-result : goal.invariant_of-result
invariant_of-result c = nothing_kept c.new.result.items c.new-2.result.items c.new.ensures.items c.new-2.ensures.items

pub returns : goal.returns
returns c = none_left c.new.result.items c.new-2.result.items 0 (omega (arith, ap length c.new.ensures.items))
