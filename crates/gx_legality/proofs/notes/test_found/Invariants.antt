use Rattle.std.proofs.Common.{◌≡◌, ℕ, ◌<◌}
use Rattle.gx_legality.specs.Placing.{stage_at}
use Rattle.gx_legality.specs.declared.notes.NoteStage.TheVariants.{Found}
use Rattle.gx_legality.proofs.notes.test_found.Given as goal

abbrev pub invariant-loop-at : goal.invariant-loop-at
invariant-loop-at g l = (i : ℕ) → i < l.at → stage_at l.stages i ≡ Found
