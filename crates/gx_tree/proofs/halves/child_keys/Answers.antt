use Rattle.std.proofs.Common.{arith}
use Rattle.gx_node.specs.Seen.{child_seen}
use Rattle.gx_node.specs.Trees.{Child}
use Rattle.gx_tree.proofs.Parted.{filled}
use Rattle.gx_tree.proofs.halves.child_keys.Goals as goal

pub loop-slot-preserved : goal.loop-slot-preserved
loop-slot-preserved g c =
    filled (λ (x : Child g.row.K-Key.Denot). x.key) c.args.inner.now.children c.loop-slot.keys c.loop-slot.slot (child_seen c.child.result) c.loop-slot.invariant.0
    (omega (arith, c.loop-slot-test.true, c.len-slot-end.ensures)) c.child.ensures c.loop-slot.invariant.1
