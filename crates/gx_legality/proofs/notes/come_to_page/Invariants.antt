use Rattle.std.proofs.Common.{◌≡◌, ℕ, ◌<◌, ◌≤◌, Some, length}
use Rattle.std.specs.Prelude.{slice_get}
use Rattle.gx_legality.specs.declared.notes.NotedPair.{NotedPair}
use Rattle.gx_legality.specs.Placing.{come_to, stage_at}
use Rattle.gx_legality.proofs.notes.come_to_page.Given as goal

abbrev pub invariant-loop-at : goal.invariant-loop-at
invariant-loop-at g l = record {
  long : length l.stages ≡ length l.fn.stages;
  done : (i : ℕ) (n : NotedPair g.row.E.Denot) → i < l.at → slice_get l.notes i ≡ Some n → stage_at l.stages i ≡ come_to l.page n.leaf (stage_at l.fn.stages i);
  left : (i : ℕ) → l.at ≤ i → stage_at l.stages i ≡ stage_at l.fn.stages i;
}
