use Rattle.std.proofs.lemmas.Grind.{common_steps}
use Rattle.std.proofs.Common.{arith}
use Rattle.gx_recovery.specs.Kept.{by_order}
use Rattle.gx_recovery.proofs.touched.Placing.{stands_at}
use Rattle.gx_recovery.proofs.touched.place.Goals as goal

pub returns-in-Equal : goal.returns-in-Equal
returns-in-Equal g c =
    let k = by_order g.E.Ord.cmp in (
      c.loop-i-test.true,
      λ d. stands_at k c.args.t.now c.index-touched-i.result d c.args.touched.now c.loop-i.i c.loop-i-test.true c.index-touched-i.is c.in-Equal.ensures c.loop-i.invariant,
    )

pub returns-in-Less : goal.returns-in-Less
returns-in-Less g c = grind (arith, common_steps)

pub loop-i-preserved : goal.loop-i-preserved
loop-i-preserved g c = grind (arith, common_steps)

pub returns : goal.returns
returns g c = grind (arith, common_steps)
