use Rattle.std.proofs.Common.{arith}
use Rattle.gx_node.specs.Seen.{pair_seen}
use Rattle.gx_node.specs.Trees.{Pair}
use Rattle.gx_tree.proofs.Parted.{filled}
use Rattle.gx_tree.proofs.halves.pair_keys.Goals as goal

pub loop-slot-preserved : goal.loop-slot-preserved
loop-slot-preserved g c =
    filled (λ (x : Pair g.row.K-Key.Denot). x.key) c.args.leaf.now.pairs c.loop-slot.keys c.loop-slot.slot (pair_seen c.entry.result) c.loop-slot.invariant.0
    (omega (arith, c.loop-slot-test.true, c.len-slot-end.ensures)) c.entry.ensures c.loop-slot.invariant.1
