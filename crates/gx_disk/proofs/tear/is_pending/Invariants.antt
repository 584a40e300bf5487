use Rattle.std.proofs.Common.{◌≡◌, drop, false}
use Rattle.gx_disk.specs.Memory.{pending_after}
use Rattle.gx_disk.proofs.tear.is_pending.Given as goal

abbrev pub invariant-loop-call : goal.invariant-loop-call
invariant-loop-call l = pending_after (drop l.call-index l.calls) l.pending l.s ≡ pending_after l.calls false l.s
