use Rattle.std.proofs.Common.{insert}
use Rattle.gx_recovery.specs.Kept.{ClosesOne}
use Rattle.gx_recovery.proofs.closed.Searching.{one_more}
use Rattle.gx_recovery.proofs.closed.put.Goals as goal

pub returns-in-Err-clause-one : goal.returns-in-Err-clause-one
returns-in-Err-clause-one c =
    let items = c.args.numbers.now.items in
    let within = rw c.deref.ensures.value at c.in-Err.ensures.0 in
    let one : ClosesOne c.args.t items (insert items c.in-Err.i c.args.t) = one_more c.args.t items c.in-Err.i within in
    rw c.insert_at.ensures.items one
