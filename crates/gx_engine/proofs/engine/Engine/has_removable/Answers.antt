use Rattle.std.proofs.Common.{rules}
use Rattle.gx_machine.specs.Keys.{keys}
use Rattle.gx_txn.specs.Tables.{claimed_in}
use Rattle.gx_engine.proofs.engine.Engine.has_removable.Goals as goal

pub returns : goal.returns
returns g c =
    let k = keys g.K.Key.Ord.cmp g.K.Key.Shape.overlap g.K.Key.Shape.inside in
    rw (← c.self.view_is) (c.has_removable.ensures (λ entry. claimed_in k entry c.self.inside.sessions.table) (λ entry answer post. search rules))
