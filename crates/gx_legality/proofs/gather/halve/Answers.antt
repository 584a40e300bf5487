use Rattle.std.proofs.Common.{◌≤◌, length, arith}
use Rattle.gx_legality.proofs.Counted.{halved}
use Rattle.gx_legality.proofs.gather.halve.Goals as goal

pub returns-then-rises-clause-halves : goal.returns-then-rises-clause-halves
returns-then-rises-clause-halves g c =
    let sorted = c.put_in_order-rises.new.items.items in
    let enough : c.args.half ≤ length sorted = omega arith in
    halved g.E.Ord.cmp g.met.E.Ord.total c.args.items.now.items sorted c.truncate.new.self.items c.args.half c.index.result.now
    c.requires.some enough c.if-rises.ensures.ascends c.put_in_order-rises.ensures.counts c.truncate.ensures.items c.index.ensures
