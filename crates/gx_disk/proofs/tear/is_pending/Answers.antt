use Rattle.gx_disk.proofs.tear.Tearing.{pending_step, pending_all}
use Rattle.gx_disk.proofs.tear.is_pending.Goals as goal

pub loop-call-preserved : goal.loop-call-preserved
loop-call-preserved c = pending_step c.args.calls.now c.loop-call.call-index _ c.loop-call.pending _ _ c.args.s c.is_pending_next-pending.ensures c.loop-call-test.true c.loop-call.invariant

pub returns : goal.returns
returns c = pending_all c.args.calls.now c.loop-call.call-index c.loop-call.pending _ c.args.s c.loop-call-test.false c.loop-call.invariant
