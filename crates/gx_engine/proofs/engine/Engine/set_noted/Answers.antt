use Rattle.std.proofs.Common.{rules}
use Rattle.gx_engine.proofs.Framed.{marked_frames}
use Rattle.gx_engine.proofs.UndoMoves.{seeking}
use Rattle.gx_engine.proofs.Ordered.{order_changed}
use Rattle.gx_engine.proofs.engine.Engine.set_noted.Goals as goal

pub invariant_of-self : goal.invariant_of-self
invariant_of-self g c =
    let did = c.set_mark.ensures in
    order_changed _ _ c.self.invariant _ (search rules) (search rules)
    (marked_frames _ _ _ _ _ _ _ _ g.K.KeyClass.spelling g.K.KeyClass.KEY c.transaction-transaction.result c.args.note.now.entry c.args.leaf c.args.note.now.before c.set_mark.result did.logged did.unlogged)

pub returns-clause-sought : goal.returns-clause-sought
returns-clause-sought g c =
    let did = c.set_mark.ensures in
    rw (← c.self.view_is, ← c.transaction-transaction.ensures)
    (seeking _ _ _ _ g.K.KeyClass.is_key _ _ _ _ _ _ _ c.transaction-transaction.result c.args.note.now c.args.leaf c.set_mark.result
    did.logged did.unlogged did.tells did.own did.why)

pub returns-clause-told : goal.returns-clause-told
returns-clause-told g c = rw (← c.self.view_is) c.set_mark.ensures.told
