use Rattle.std.proofs.Common.{◌≡◌, ℕ, length, get_or, None}
use Rattle.gx_pool.proofs.mark.empty_places.Given as goal

abbrev pub invariant-loop-i : goal.invariant-loop-i
invariant-loop-i l = (length l.places.items ≡ l._i) × ((k : ℕ) → get_or l.places.items k None ≡ None)
