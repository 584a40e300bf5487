use Rattle.std.proofs.Common.{rules}
use Rattle.gx_engine.proofs.writes.descents.Moves.{stepping}
use Rattle.gx_engine.proofs.Framed.{stepped_frames}
use Rattle.gx_engine.proofs.Ordered.{order_changed}
use Rattle.gx_engine.proofs.Calling.{stepped_read}
use Rattle.gx_engine.proofs.engine.Engine.step_down.Goals as goal

pub invariant_of-self : goal.invariant_of-self
invariant_of-self g c =
    let did = c.descend.ensures in
    order_changed _ _ c.self.invariant _ (search rules) (search rules)
    (stepped_frames _ _ _ _ _ _ _ _ g.K.KeyClass.spelling g.K.KeyClass.KEY c.args.item.now.page _ c.descend.result did.logged did.unlogged)

pub returns-clause-step : goal.returns-clause-step
returns-clause-step g c =
    let did = c.descend.ensures in
    rw (← c.self.view_is)
    (stepping _ _ _ _ _ _ g.K.KeyClass.spelling g.K.KeyClass.KEY _ _ _ _ c.args.item.now c.args.coming.now c.descend.result did.logged did.unlogged did.tells.descended did.own did.why did.tells.damaged)

pub returns-clause-device : goal.returns-clause-device
returns-clause-device g c =
    let did = c.descend.ensures in
    rw (← c.self.view_is) (stepped_read _ _ _ _ _ _ _ _ g.K.KeyClass.spelling g.K.KeyClass.KEY c.args.item.now.page _ c.descend.result did.logged did.unlogged)

pub returns-clause-told : goal.returns-clause-told
returns-clause-told g c = rw (← c.self.view_is) c.descend.ensures.told
