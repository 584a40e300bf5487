use Rattle.std.proofs.Common.{◌≡◌, ℕ, suc, ◌<◌, get_or}
use Rattle.std.specs.declared.cmp.Ordering.TheVariants.{Less}
use Rattle.gx_legality.proofs.gather.ascends.Given as goal

abbrev pub invariant-loop-at : goal.invariant-loop-at
invariant-loop-at g l =
    (j k : ℕ) (d : g.row.E.Denot) → suc j ≡ k → k < l.at → g.E.Ord.cmp (get_or l.items j d) (get_or l.items k d) ≡ Less
