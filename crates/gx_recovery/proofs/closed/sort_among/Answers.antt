use Rattle.std.proofs.Common.{ℕ}
use Rattle.std.proofs.lemmas.List.Sorted.{IsNonDecreasingBy-from_sort}
use Rattle.gx_recovery.proofs.closed.sort_among.Goals as goal

pub returns-clause-rise : goal.returns-clause-rise
returns-clause-rise c = IsNonDecreasingBy-from_sort (λ (x : ℕ). x) c.sort_unstable.new.self.items c.sort_unstable.ensures.sorted
