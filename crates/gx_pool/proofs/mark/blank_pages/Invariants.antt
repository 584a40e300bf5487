use Rattle.std.proofs.Common.{◌≡◌, length}
use Rattle.gx_pool.proofs.mark.blank_pages.Given as goal

abbrev pub invariant-loop-i : goal.invariant-loop-i
invariant-loop-i l = length l.pages.items ≡ l._i
