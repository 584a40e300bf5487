use Rattle.std.proofs.Common.{◌-◌, ◌∙◌, ap}
use Rattle.gx_engine.specs.States.{Parts}
use Rattle.gx_engine.proofs.start.Starting.{fresh_in_order, over_started}
use Rattle.gx_engine.proofs.engine.Engine.over.Goals as goal

pub new-store-requires-clause-order : goal.new-store-requires-clause-order
new-store-requires-clause-order g c =
    fresh_in_order _ c.args.start.now.frames (c.args.start.now.bodies - 1) _ c.args.start.now.used c.args.start.now.pages _ c.requires.pool.0 c.requires.inside.0 c.requires.inside.1 c.requires.inside.2

pub returns : goal.returns
returns g c =
    let same = c.engine.view_is ∙ c.new-engine.ensures in
    over_started _ c.args.start.now c.args.disk c.args.log c.args.room.pool.frames c.new-store.result c.new.result c.engine.inside.storage c.args.sessions c.engine.inside.sessions c.engine.inside.in_flight c.from.result c.requires.log c.from.ensures c.new-store.ensures c.new.ensures c.requires.pool.0 c.requires.sessions
    (ap (λ (x : Parts g.row.K-Key.Denot g.row.D.Denot). x.volume) same) (ap (λ (x : Parts g.row.K-Key.Denot g.row.D.Denot). x.sessions) same)
    (ap (λ (x : Parts g.row.K-Key.Denot g.row.D.Denot). x.in_flight) same)
