use Rattle.std.proofs.Common.{get_or, ap, sym}
use Rattle.std.specs.Prelude.{nat_le}
use Rattle.gx_recovery.specs.Analysis.{touching}
use Rattle.gx_recovery.specs.Kept.{by_order}
use Rattle.gx_recovery.proofs.touched.Placing.{as_many}
use Rattle.gx_recovery.proofs.touched.has_place.Goals as goal

pub returns-in-Ok : goal.returns-in-Ok
returns-in-Ok g c =
    let k = by_order g.E.Ord.cmp in
    sym (ap (λ n. nat_le n 512) (as_many c.args.touched.now (touching k c.args.t.now c.args.touched.now) c.in-Ok.field-0 (record (get_or c.args.touched.now c.in-Ok.field-0 c.args.t.now) { leaf = c.args.t.now.leaf })
    (c.in-Ok.ensures.1 c.args.t.now)))
