use Rattle.std.proofs.Common.{◌≡◌, ℕ, ◌<◌, true, Some}
use Rattle.std.specs.Prelude.{slice_get}
use Rattle.gx_node.specs.Trees.{Child}
use Rattle.gx_legality.proofs.bounds.covers_children.Given as goal

abbrev pub invariant-loop-slot : goal.invariant-loop-slot
invariant-loop-slot g l =
    (k : ℕ) (x : Child g.row.K-Key.Denot) → k < l.slot → slice_get l.inner.children k ≡ Some x → g.K.Key.Shape.inside x.key l.bound ≡ true
