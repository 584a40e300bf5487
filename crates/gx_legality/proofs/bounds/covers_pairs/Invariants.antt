use Rattle.std.proofs.Common.{◌≡◌, ℕ, ◌<◌, true, Some}
use Rattle.std.specs.Prelude.{slice_get}
use Rattle.gx_node.specs.Trees.{Pair}
use Rattle.gx_legality.proofs.bounds.covers_pairs.Given as goal

abbrev pub invariant-loop-slot : goal.invariant-loop-slot
invariant-loop-slot g l =
    (k : ℕ) (x : Pair g.row.K-Key.Denot) → k < l.slot → slice_get l.leaf.pairs k ≡ Some x → g.K.Key.Shape.inside x.key l.bound ≡ true
