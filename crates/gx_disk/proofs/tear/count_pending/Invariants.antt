use Rattle.std.proofs.Common.{◌≡◌, ◌≤◌, false}
use Rattle.gx_disk.specs.Memory.{pending_after}
use Rattle.gx_disk.specs.Crash.{pending_below}
use Rattle.gx_disk.proofs.tear.count_pending.Given as goal

abbrev pub invariant-loop-s : goal.invariant-loop-s
invariant-loop-s l = record {
  count : l.i ≡ pending_below (pending_after l.calls false) l.s;
  few : l.i ≤ l.s;
}
