use Rattle.gx_pool.specs.Marks.{NoLeafBetween}
use Rattle.gx_pool.proofs.mark.leaf_between.Given as goal

abbrev pub invariant-loop-i : goal.invariant-loop-i
invariant-loop-i l = NoLeafBetween l.held l.marks l.pages l.from l.i
