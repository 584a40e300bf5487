use Rattle.std.proofs.Common.{◌≡◌, ℕ, ◌-◌, ◌<◌, ◌≤◌, Some, length}
use Rattle.std.specs.Prelude.{slice_get}
use Rattle.std.specs.declared.cmp.Ordering.TheVariants.{Less, Greater}
use Rattle.gx_legality.specs.declared.notes.NotedPair.{NotedPair}
use Rattle.gx_legality.proofs.notes.find.Given as goal

abbrev pub invariant-loop-low : goal.invariant-loop-low
invariant-loop-low g l = record {
  high : l.high ≤ length l.notes;
  before : (i : ℕ) (n : NotedPair g.row.E.Denot) → i < l.low → slice_get l.notes i ≡ Some n → g.E.Ord.cmp n.entry l.entry ≡ Less;
  after : (i : ℕ) (n : NotedPair g.row.E.Denot) → l.high ≤ i → slice_get l.notes i ≡ Some n → g.E.Ord.cmp n.entry l.entry ≡ Greater;
}

abbrev pub decreases-loop-low : goal.decreases-loop-low
decreases-loop-low g l = l.high - l.low
