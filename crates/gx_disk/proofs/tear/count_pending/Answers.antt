use Rattle.std.proofs.Common.{ℕ, ap, false, if◌then◌else◌, arith}
use Rattle.gx_disk.specs.Memory.{pending_after}
use Rattle.gx_disk.proofs.tear.Tearing.{pending_below_none, pending_below_next}
use Rattle.gx_disk.proofs.tear.count_pending.Goals as goal

pub loop-s-init : goal.loop-s-init
loop-s-init c = record { count = pending_below_none (pending_after c.args.calls.now false); few = omega arith }

pub loop-s-preserved : goal.loop-s-preserved
loop-s-preserved c = record {
  count = omega (arith, c.loop-s.invariant.count, c.one_if-i.ensures.value, ap {B = ℕ} (λ b. if b then 1 else 0) c.is_pending.ensures, pending_below_next (pending_after c.args.calls.now false) c.loop-s.s);
  few = omega (arith, c.one_if-i.ensures.bound, c.loop-s.invariant.few);
}
