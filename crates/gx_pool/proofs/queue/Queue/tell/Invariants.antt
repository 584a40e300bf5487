use Rattle.std.proofs.Common.{◌+◌, ◌-◌, ◌≤◌}
use Rattle.gx_disk.specs.declared.layout.TheConstants.{MAX_PAGES}
use Rattle.gx_pool.specs.Queues.{AreListedBelow}
use Rattle.gx_pool.proofs.queue.Queue.tell.Given as goal

-- those up to here are listed anew
abbrev pub invariant-loop-page : goal.invariant-loop-page
invariant-loop-page l = AreListedBelow l.from l.gated l.marks l.self × (l.from ≤ MAX_PAGES + 1)

abbrev pub decreases-loop-page : goal.decreases-loop-page
decreases-loop-page l = MAX_PAGES + 1 - l.from
