use Rattle.std.proofs.Common.{◌≡◌, ◌-◌, length}
use Rattle.gx_node.specs.Trees.{Tree}
use Rattle.gx_legality.specs.Marks.{AreLinks}
use Rattle.gx_legality.proofs.Walks.{Walks}
use Rattle.gx_legality.proofs.chain.walk_chain.Given as goal

abbrev pub invariant-loop-step : goal.invariant-loop-step
invariant-loop-step g l =
    (length l.passed ≡ length l.links)
    × ((t : Tree g.row.K-Key.Denot) → AreLinks t l.links → Walks t l.passed (length l.links - l._step) l.page)
