use Rattle.std.proofs.Common.{◌≡◌, ℕ, ◌*◌, ◌<◌, ◌≤◌}
use Rattle.gx_pool.specs.Words.{has}
use Rattle.gx_pool.proofs.words.first_in.Given as goal

-- none up to here
abbrev pub invariant-loop-word : goal.invariant-loop-word
invariant-loop-word l = (n : ℕ) → l.from ≤ n → n < 64 * l.word → has l.words n ≡ 0
