use Rattle.std.proofs.Common.{◌≡◌, ℕ, ◌<◌, ◌≤◌, ◌==◌, false, map, get_or}
use Rattle.gx_tree.proofs.split.next_named.Given as goal

abbrev pub invariant-loop-slot : goal.invariant-loop-slot
invariant-loop-slot g l = (k : ℕ) → l.from ≤ k → k < l.slot → get_or (map (λ c. c.page == l.page) l.inner.children) k false ≡ false
