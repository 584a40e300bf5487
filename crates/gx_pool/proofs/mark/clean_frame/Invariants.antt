use Rattle.std.proofs.Common.{◌≡◌, ℕ, ◌<◌, false, get_or}
use Rattle.gx_pool.specs.Marks.{clean, empty}
use Rattle.gx_pool.proofs.mark.clean_frame.Given as goal

abbrev pub invariant-loop-i : goal.invariant-loop-i
invariant-loop-i l = (k : ℕ) → k < l.i → clean l.held (get_or l.marks k empty) ≡ false
