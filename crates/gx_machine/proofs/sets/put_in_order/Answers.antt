use Rattle.std.specs.Cmp.{both_tied, unsigned_ties}
use Rattle.std.proofs.lemmas.List.Filters.{dedup_is}
use Rattle.gx_machine.specs.Keys.{keys}
use Rattle.gx_machine.proofs.sets.Sorting.{sorted_set}
use Rattle.gx_machine.proofs.sets.put_in_order.Goals as goal

pub returns-clause-items : goal.returns-clause-items
returns-clause-items g c =
    let k = keys g.B.Ord.cmp g.B.Shape.overlap g.B.Shape.inside in
    sorted_set k (record { total = g.met.B.Ord.total; exact = g.met.B.Shape.same }) _
    (λ a b. both_tied _ _ _ _ (unsigned_ties a.row b.row) (g.met.B.Ord.matches_eq a.key b.key))
    c.args.entries.now.items _ _ c.sort_unstable.ensures.permutation c.sort_unstable.ensures.sorted (dedup_is _ _ _ c.dedup.ensures.filtered)
