use Rattle.std.proofs.Common.{◌≡◌, ℕ, length, get_or}
use Rattle.gx_pool.proofs.page_set.zeros.Given as goal

abbrev pub invariant-loop-i : goal.invariant-loop-i
invariant-loop-i l = (length l.words.items ≡ l._i) × ((k : ℕ) → get_or l.words.items k 0 ≡ 0)
