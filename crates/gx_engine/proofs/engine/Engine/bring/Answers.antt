use Rattle.std.proofs.Common.{◌≡◌, refl, true}
use Rattle.gx_events.specs.declared.outcome.Outcome.{Outcome}
use Rattle.gx_events.specs.declared.outcome.Outcome.TheVariants.{Refused}
use Rattle.gx_store.specs.declared.fault.StoreFault.{StoreFault}
use Rattle.gx_engine.specs.Refusals.{IsTurnedAway}
use Rattle.gx_engine.specs.States.{Parts}
use Rattle.gx_engine.proofs.Ordered.{order_read}
use Rattle.gx_engine.proofs.Brought.{brought_leads, by_refusal, refused_leads}
use Rattle.gx_pool.proofs.Bringing.{only_read_joined}
use Rattle.gx_engine.proofs.Failing.{ends_told}
use Rattle.gx_engine.proofs.engine.Engine.bring.Goals as goal

-- an engine that turns pages away has the same pages
same_pages : {B D : Type 0} (n : StoreFault) (was new : Parts B D) (outcome : Outcome B) → IsTurnedAway n was new outcome → new.volume ≡ was.volume
same_pages n was new outcome is = by_refusal Refused was new outcome (λ x o. x.volume ≡ was.volume) n is (λ can found helps. refl) (λ device. refl) (λ lies. refl)

pub invariant_of-self-in-Err : goal.invariant_of-self-in-Err
invariant_of-self-in-Err g c =
    let e : Parts g.row.K-Key.Denot g.row.D.Denot = record { volume = c.self.inside.storage; sessions = c.self.inside.sessions; in_flight = c.self.inside.in_flight; checkpoint = c.self.inside.checkpoint } in
    let did = c.bring.ensures.unlogged in
    order_read e c.self.inside.keys.items c.self.invariant c.bring.new.self did.log did.most (λ page. (did.since page).same.stamp) (did.since 0).goes_on.frames e.sessions refl refl

pub returns-in-Ok-clause-leads : goal.returns-in-Ok-clause-leads
returns-in-Ok-clause-leads g c =
    let old : Parts g.row.K-Key.Denot g.row.D.Denot = record { volume = c.self.inside.storage; sessions = c.self.inside.sessions; in_flight = c.self.inside.in_flight; checkpoint = c.self.inside.checkpoint } in
    let w = c.bring.new.self in
    let state = g.D.SectorDisk.state in
    let did = c.bring.ensures.unlogged in
    rw (← c.self.view_is) (λ l. brought_leads _ (c.a_class_is_lawful.ensures l) _ _ _ (state old.volume.shelf.disk) (state w.shelf.disk) old w did.most did.log (did.since 0).goes_on.device (did.keeps l))

pub returns-in-Err-clause-unlogged : goal.returns-in-Err-clause-unlogged
returns-in-Err-clause-unlogged g c =
    let same = same_pages c.in-Err.fault _ c.turn_away.new.self c.turn_away.result c.turn_away.ensures.refused in
    rw (same, ← c.self.view_is) c.bring.ensures.unlogged

pub returns-in-Err-clause-stays : goal.returns-in-Err-clause-stays
returns-in-Err-clause-stays g c =
    let same = same_pages c.in-Err.fault _ c.turn_away.new.self c.turn_away.result c.turn_away.ensures.refused in
    rw (same, ← c.self.view_is) c.bring.ensures.stays

pub returns-in-Err-clause-leads : goal.returns-in-Err-clause-leads
returns-in-Err-clause-leads g c =
    let old : Parts g.row.K-Key.Denot g.row.D.Denot = record { volume = c.self.inside.storage; sessions = c.self.inside.sessions; in_flight = c.self.inside.in_flight; checkpoint = c.self.inside.checkpoint } in
    let w = c.bring.new.self in
    let did = c.bring.ensures.unlogged in
    rw (← c.self.view_is) (λ l. refused_leads _ (c.a_class_is_lawful.ensures l) _ _ _ g.D.SectorDisk.state old w did.most did.log (did.since 0).goes_on.device (did.keeps l)
    true c.in-Err.fault c.in-Err.ensures.why c.turn_away.new.self c.turn_away.result c.turn_away.ensures.refused)

pub returns-in-Err-clause-device : goal.returns-in-Err-clause-device
returns-in-Err-clause-device g c =
    let state = g.D.SectorDisk.state in
    let did = c.bring.ensures.unlogged in
    rw (← c.self.view_is)
    (only_read_joined (state c.self.inside.storage.shelf.disk) (state c.bring.new.self.shelf.disk) (state c.turn_away.new.self.volume.shelf.disk) (did.since 0).goes_on.device c.turn_away.ensures.device)

pub returns-in-Err-clause-told : goal.returns-in-Err-clause-told
returns-in-Err-clause-told g c =
    let e : Parts g.row.K-Key.Denot g.row.D.Denot = record { volume = c.self.inside.storage; sessions = c.self.inside.sessions; in_flight = c.self.inside.in_flight; checkpoint = c.self.inside.checkpoint } in
    let mid : Parts g.row.K-Key.Denot g.row.D.Denot = record e { volume = c.bring.new.self } in
    rw (← c.self.view_is) (ends_told g.D.SectorDisk.state e mid c.turn_away.new.self c.turn_away.result _ c.in-Err.ensures.told c.turn_away.ensures.volume c.turn_away.ensures.told)
