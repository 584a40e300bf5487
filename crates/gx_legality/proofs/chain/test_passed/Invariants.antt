use Rattle.std.proofs.Common.{◌≡◌, ℕ, ◌<◌, ◌≤◌, get_or, Some, None}
use Rattle.gx_legality.specs.Marks.{marked}
use Rattle.gx_legality.proofs.chain.test_passed.Given as goal

abbrev pub invariant-loop-page : goal.invariant-loop-page
invariant-loop-page l = (q : ℕ) → q < l.page → (right : ℕ) → get_or l.links q None ≡ Some right → 1 ≤ marked l.passed q
