use Rattle.std.proofs.Common.{◌≡◌, ℕ, ◌<◌, ◌≤◌}
use Rattle.gx_legality.specs.Marks.{marked}
use Rattle.gx_legality.proofs.named.test_named.Given as goal

abbrev pub invariant-loop-page : goal.invariant-loop-page
invariant-loop-page l = (q : ℕ) → 2 ≤ q → q < l.page → marked l.marks q ≡ 1
