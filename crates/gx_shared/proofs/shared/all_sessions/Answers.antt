use Rattle.std.proofs.Common.{arith, ◌+◌}
use Rattle.gx_shared.proofs.Sharing.{next_sessions}
use Rattle.gx_shared.proofs.shared.all_sessions.Goals as goal

pub loop-place-init : goal.loop-place-init
loop-place-init g c = (omega (arith, c.requires.parts), c.requires.amount, c.in_ok-sessions.ensures.items)

pub loop-place-preserved : goal.loop-place-preserved
loop-place-preserved g c =
    let inv = c.loop-place.invariant in
    let given = c.split_off-share.ensures in (
      omega (arith, given.parts_left, inv.0),
      omega (arith, given.amount_left, inv.1),
      next_sessions c.loop-place.place (c.loop-place.place + 1) c.loop-place.sessions.items c.push.new.self.items c.new.result (omega arith) c.new.ensures inv.2 c.in_ok-push.ensures.items,
    )
