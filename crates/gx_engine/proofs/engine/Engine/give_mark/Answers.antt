use Rattle.std.proofs.Common.{rules}
use Rattle.gx_txn.specs.declared.note.Note.{Note}
use Rattle.gx_engine.proofs.Framed.{marked_frames}
use Rattle.gx_engine.proofs.UndoMoves.{seeking}
use Rattle.gx_engine.proofs.Ordered.{order_changed}
use Rattle.gx_engine.proofs.Calling.{marked_read}
use Rattle.gx_engine.proofs.engine.Engine.give_mark.Goals as goal

pub invariant_of-self : goal.invariant_of-self
invariant_of-self g c =
    let did = c.set_mark.ensures in
    order_changed _ _ c.self.invariant _ (search rules) (search rules)
    (marked_frames _ _ _ _ _ _ _ _ g.K.KeyClass.spelling g.K.KeyClass.KEY c.transaction-transaction.result c.args.entry.now c.args.leaf c.args.marked c.set_mark.result did.logged did.unlogged)

pub returns-clause-sought : goal.returns-clause-sought
returns-clause-sought g c =
    let did = c.set_mark.ensures in
    let n : Note g.row.K-Key.Denot = record { entry = c.args.entry.now; before = c.args.marked; leaf = c.args.leaf } in
    rw (← c.self.view_is, ← c.transaction-transaction.ensures)
    (seeking _ _ _ _ g.K.KeyClass.is_key _ _ _ _ _ _ _ c.transaction-transaction.result n c.args.leaf c.set_mark.result
    did.logged did.unlogged did.tells did.own did.why)

pub returns-clause-device : goal.returns-clause-device
returns-clause-device g c =
    let did = c.set_mark.ensures in
    rw (← c.self.view_is)
    (marked_read _ _ _ _ _ _ _ _ g.K.KeyClass.spelling g.K.KeyClass.KEY c.transaction-transaction.result c.args.entry.now c.args.leaf c.args.marked c.set_mark.result did.logged did.unlogged)

pub returns-clause-told : goal.returns-clause-told
returns-clause-told g c = rw (← c.self.view_is) c.set_mark.ensures.told
