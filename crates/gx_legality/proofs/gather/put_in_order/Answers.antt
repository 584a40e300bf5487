use Rattle.gx_legality.proofs.Counted.{count_permuted, rises}
use Rattle.gx_legality.proofs.gather.put_in_order.Goals as goal

pub returns-clause-counts : goal.returns-clause-counts
returns-clause-counts g c = λ e. count_permuted g.E.Ord.cmp e c.args.items.now.items c.sort_unstable.new.self.items c.sort_unstable.ensures.permutation

pub returns-clause-ascends : goal.returns-clause-ascends
returns-clause-ascends g c = rises g.E.Ord.cmp g.met.E.Ord.total c.sort_unstable.new.self.items c.as_slice.result.now c.ascends.result
    c.as_slice.ensures.value c.sort_unstable.ensures.sorted c.ascends.ensures
