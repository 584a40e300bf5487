use Rattle.std.proofs.Common.{◌≡◌, ℕ, length, get_or}
use Rattle.gx_pool.specs.Marks.{empty}
use Rattle.gx_pool.proofs.mark.empty_marks.Given as goal

abbrev pub invariant-loop-i : goal.invariant-loop-i
invariant-loop-i l = (length l.marks.items ≡ l._i) × ((k : ℕ) → get_or l.marks.items k empty ≡ empty)
