use Rattle.std.proofs.Common.{◌≡◌, ℕ, ◌<◌, Some}
use Rattle.std.specs.Prelude.{slice_get}
use Rattle.std.specs.declared.cmp.Ordering.TheVariants.{Less}
use Rattle.gx_legality.specs.declared.notes.NotedPair.{NotedPair}
use Rattle.gx_opening.proofs.notes.place_of.Given as goal

abbrev pub invariant-loop-at : goal.invariant-loop-at
invariant-loop-at g l = (i : ℕ) (n : NotedPair g.row.E.Denot) → i < l.at → slice_get l.notes i ≡ Some n → g.E.Ord.cmp n.entry l.entry ≡ Less
