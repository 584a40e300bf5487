use Rattle.std.proofs.Common.{◌+◌, arith}
use Rattle.std.proofs.lemmas.List.{take_rest}
use Rattle.gx_recovery.proofs.touched.Placing.{counted}
use Rattle.gx_recovery.proofs.touched.transactions.Goals as goal

pub loop-i-preserved : goal.loop-i-preserved
loop-i-preserved g c =
    let parted = counted c.index-touched-i.result c.args.touched.now c.loop-i.i c.loop-i-test.true c.index-touched-i.is in
    let last = rw (take_rest c.args.touched.now (c.loop-i.i + 1)) at c.is_last-count.ensures.value in record {
      all = omega (arith, parted, c.loop-i.invariant.all, last);
      few = omega (arith, c.loop-i.invariant.few, c.is_last-count.ensures.few);
    }
