use Rattle.std.proofs.Common.{rules}
use Rattle.gx_machine.specs.Keys.{keys}
use Rattle.gx_engine.specs.States.{Parts}
use Rattle.gx_engine.specs.Sweeping.{is_held}
use Rattle.gx_engine.proofs.Framed.{swept_frames}
use Rattle.gx_engine.proofs.writes.descents.Moves.{leaf_sweeping}
use Rattle.gx_engine.proofs.Ordered.{order_changed}
use Rattle.gx_engine.proofs.Calling.{swept_read}
use Rattle.gx_engine.proofs.engine.Engine.sweep_leaf.Goals as goal

pub invariant_of-self : goal.invariant_of-self
invariant_of-self g c =
    let did = c.sweep.ensures in
    order_changed _ _ c.self.invariant _ (search rules) (search rules)
    (swept_frames _ _ _ _ _ _ _ _ _ _ c.sweep.result did.logged did.unlogged)

pub returns-clause-sweeps : goal.returns-clause-sweeps
returns-clause-sweeps g c =
    let old : Parts g.row.K-Key.Denot g.row.D.Denot = record { volume = c.self.inside.storage; sessions = c.self.inside.sessions; in_flight = c.self.inside.in_flight; checkpoint = c.self.inside.checkpoint } in
    let k = keys g.K.Key.Ord.cmp g.K.Key.Shape.overlap g.K.Key.Shape.inside in
    let did = c.sweep.ensures in
    rw (← c.self.view_is, ← c.page.ensures)
    (leaf_sweeping _ _ _ _ _ _ _ _ _ (is_held k old) (λ entry answer post. search rules) c.page.result c.sweep.result did.logged did.unlogged
    (λ steady. did.tells.swept steady (is_held k old) (λ entry answer post. search rules)) did.own did.tells.damaged)

pub returns-clause-device : goal.returns-clause-device
returns-clause-device g c =
    let did = c.sweep.ensures in
    rw (← c.self.view_is) (swept_read _ _ _ _ _ _ _ _ _ _ c.sweep.result did.logged did.unlogged)

pub returns-clause-told : goal.returns-clause-told
returns-clause-told g c = rw (← c.self.view_is) c.sweep.ensures.told
