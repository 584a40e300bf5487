use Rattle.std.proofs.Common.{◌≢◌, arith, rules}
use Rattle.std.specs.declared.cmp.Ordering.TheVariants.{Less}
use Rattle.gx_legality.proofs.Counted.{falls_at}
use Rattle.gx_legality.proofs.gather.ascends.Goals as goal

pub returns-then-ne : goal.returns-then-ne
returns-then-ne g c =
    let x = c.index-items-at.result in
    let y = c.index-items-at-in-loop-at.result in
    let ne : g.E.Ord.cmp x y ≢ Less = search rules in
    falls_at g.E.Ord.cmp c.args.items.now c.loop-at.at x y (omega arith) (omega arith) c.index-items-at.is c.index-items-at-in-loop-at.is ne
