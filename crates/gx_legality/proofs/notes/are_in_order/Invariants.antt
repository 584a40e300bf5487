use Rattle.std.proofs.Common.{◌≡◌, ℕ, suc, ◌<◌, Some}
use Rattle.std.specs.Prelude.{slice_get}
use Rattle.std.specs.declared.cmp.Ordering.TheVariants.{Less}
use Rattle.gx_legality.specs.declared.notes.NotedPair.{NotedPair}
use Rattle.gx_legality.proofs.notes.are_in_order.Given as goal

abbrev pub invariant-loop-at : goal.invariant-loop-at
invariant-loop-at g l =
    (j k : ℕ) (n m : NotedPair g.row.E.Denot) → suc j ≡ k → k < l.at → slice_get l.notes j ≡ Some n → slice_get l.notes k ≡ Some m → g.E.Ord.cmp n.entry m.entry ≡ Less
