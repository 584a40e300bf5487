use Rattle.std.proofs.Common.{refl}
use Rattle.gx_engine.specs.States.{Parts}
use Rattle.gx_engine.proofs.Brought.{brought_leads}
use Rattle.gx_engine.proofs.Ordered.{order_read}
use Rattle.gx_engine.proofs.engine.Engine.drain.Goals as goal

pub invariant_of-self : goal.invariant_of-self
invariant_of-self g c =
    let e : Parts g.row.K-Key.Denot g.row.D.Denot = record { volume = c.self.inside.storage; sessions = c.self.inside.sessions; in_flight = c.self.inside.in_flight; checkpoint = c.self.inside.checkpoint } in
    let did = c.drain.ensures.unlogged in
    order_read e c.self.inside.keys.items c.self.invariant c.drain.new.self did.log did.most (λ page. (did.since page).same.stamp) (did.since 0).goes_on.frames e.sessions refl refl

pub returns-clause-leads : goal.returns-clause-leads
returns-clause-leads g c =
    let old : Parts g.row.K-Key.Denot g.row.D.Denot = record { volume = c.self.inside.storage; sessions = c.self.inside.sessions; in_flight = c.self.inside.in_flight; checkpoint = c.self.inside.checkpoint } in
    let w = c.drain.new.self in
    let state = g.D.SectorDisk.state in
    let did = c.drain.ensures.unlogged in
    rw (← c.self.view_is) (λ l. brought_leads _ (c.a_class_is_lawful.ensures l) _ _ _ (state old.volume.shelf.disk) (state w.shelf.disk) old w did.most did.log (did.since 0).goes_on.device (did.keeps l))

pub returns-clause-device : goal.returns-clause-device
returns-clause-device g c = rw (← c.self.view_is) (c.drain.ensures.unlogged.since 0).goes_on.device
