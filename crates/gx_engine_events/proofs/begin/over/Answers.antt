use Rattle.std.proofs.Common.{arith}
use Rattle.gx_engine_events.proofs.New.{over_new}
use Rattle.gx_engine_events.proofs.begin.over.Goals as goal

pub new-store-requires-clause-order : goal.new-store-requires-clause-order
new-store-requires-clause-order g c =
    let least = c.requires.range.least_pages in
    c.a_store_starts.ensures.order c.args.disk c.args.room.pool.frames c.args.size.2 2 c.args.size.0 c.requires.pool.0 c.requires.range.most_pages c.requires.inside (omega (arith, least))

pub returns : goal.returns
returns g c =
    over_new c.args.size.0 c.args.size.1 c.args.size.2 c.from.result c.args.room.pool.frames c.args.disk c.args.log c.args.sessions c.new-store.result c.new-storage.result c.new.result
    c.requires.pool.0 c.requires.log c.requires.sessions c.new-store.ensures c.from.ensures c.new-storage.ensures c.new.ensures

pub new-requires-clause-frames : goal.new-requires-clause-frames
new-requires-clause-frames g c =
    let count = c.requires.pool.0.count in
    let least = c.requires.frames.least in
    rw (c.new-storage.ensures, c.new-store.ensures) (omega (arith, count, least))
