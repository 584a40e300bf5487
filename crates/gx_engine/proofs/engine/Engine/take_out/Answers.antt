use Rattle.std.proofs.Common.{◌≡◌, ◌≤◌, ◌<◌, ◌∙◌, ap, inr, refl, true, length, Err, rules, Result, Bool, subst, arith}
use Rattle.gx_machine.specs.Keys.{keys}
use Rattle.gx_node.specs.Reading.{format_of, is_node}
use Rattle.gx_node.specs.declared.items.TheConstants.{MAX_ENTRIES}
use Rattle.gx_store.specs.Faults.{CanBeRead, store_fails}
use Rattle.gx_store.specs.State.{IsSteady}
use Rattle.gx_node.specs.declared.fault.StepFault.TheVariants.{Damaged, Pages}
use Rattle.gx_phases.specs.Moves.{failed_state}
use Rattle.gx_store.specs.declared.fault.StoreFault.{StoreFault}
use Rattle.gx_storage.specs.Bringing.{has_removable}
use Rattle.gx_storage.specs.Changes.{has_room}
use Rattle.gx_storage.proofs.Recording.{nodes_of}
use Rattle.gx_storage.specs.State.{Volume}
use Rattle.gx_engine.specs.States.{Parts, is_due}
use Rattle.gx_engine.specs.Sweeping.{is_held, node_shown, slots_room}
use Rattle.gx_engine.proofs.Brought.{as_brought, brought_leads, refused_leads}
use Rattle.gx_engine.proofs.Reading.{of_err}
use Rattle.gx_engine.proofs.Serving.{flies_on, is_calm, not_due}
use Rattle.gx_engine.proofs.Ordered.{order_read}
use Rattle.gx_engine.proofs.sweeps.Sweeping.{more_than_fit, never_full, never_none, none_taken, sweep_leads, sweep_so, swept_so, turned_comes, unswept_so}
use Rattle.gx_pool.proofs.Bringing.{only_read_joined}
use Rattle.gx_node.specs.Owner.{CountsFaults, step_fails}
use Rattle.gx_node.specs.declared.fault.StepFault.{StepFault}
use Rattle.gx_engine.proofs.Failing.{ends_told}
use Rattle.gx_engine.proofs.engine.Engine.take_out.Goals as goal

pub invariant_of-self-in-Err-Pages : goal.invariant_of-self-in-Err-Pages
invariant_of-self-in-Err-Pages g c =
    let e : Parts g.row.K-Key.Denot g.row.D.Denot = record { volume = c.self.inside.storage; sessions = c.self.inside.sessions; in_flight = c.self.inside.in_flight; checkpoint = c.self.inside.checkpoint } in
    let refused = of_err _ c.sweep.result (Pages c.in-Err-Pages.fault) (search rules) c.sweep.ensures.unlogged in
    let did = refused.unlogged in
    order_read e c.self.inside.keys.items c.self.invariant c.sweep.new.self did.log did.most (λ page. (did.since page).same.stamp) (did.since 0).goes_on.frames e.sessions refl refl

pub invariant_of-self-in-Err-Damaged : goal.invariant_of-self-in-Err-Damaged
invariant_of-self-in-Err-Damaged g c =
    let e : Parts g.row.K-Key.Denot g.row.D.Denot = record { volume = c.self.inside.storage; sessions = c.self.inside.sessions; in_flight = c.self.inside.in_flight; checkpoint = c.self.inside.checkpoint } in
    let did = c.in-Err-Damaged.ensures.unlogged.unlogged in
    order_read e c.self.inside.keys.items c.self.invariant c.sweep.new.self did.log did.most (λ page. (did.since page).same.stamp) (did.since 0).goes_on.frames e.sessions refl refl

pub returns-in-Ok-true-clause-sweeps : goal.returns-in-Ok-true-clause-sweeps
returns-in-Ok-true-clause-sweeps g c =
    let old : Parts g.row.K-Key.Denot g.row.D.Denot = record { volume = c.self.inside.storage; sessions = c.self.inside.sessions; in_flight = c.self.inside.in_flight; checkpoint = c.self.inside.checkpoint } in
    let k = keys g.K.Key.Ord.cmp g.K.Key.Shape.overlap g.K.Key.Shape.inside in
    let early = ap (λ (x : Parts g.row.K-Key.Denot g.row.D.Denot). is_due x) c.self.view_is ∙ c.requires.early in
    let did = c.in-Ok-true.ensures in
    let logged = sweep_so _ _ _ _ _ _ _ _ _ _ c.in-Ok-true.field-0 c.in-Ok-true.field-0-test did.logged in
    rw (← c.self.view_is) (record {
      early = early;
      slots = logged.slots;
      taken = λ steady. logged.exact steady (is_held k old) (λ entry answer post. search rules);
      logged = logged.logged;
      swept = λ steady. swept_so _ _ _ _ c.in-Ok-true.field-0 c.in-Ok-true.field-0-test (did.tells.swept steady (is_held k old) (λ entry answer post. search rules));
      only = refl;
    })

pub returns-in-Ok-true-clause-leads : goal.returns-in-Ok-true-clause-leads
returns-in-Ok-true-clause-leads g c =
    let old : Parts g.row.K-Key.Denot g.row.D.Denot = record { volume = c.self.inside.storage; sessions = c.self.inside.sessions; in_flight = c.self.inside.in_flight; checkpoint = c.self.inside.checkpoint } in
    let k = keys g.K.Key.Ord.cmp g.K.Key.Shape.overlap g.K.Key.Shape.inside in
    let w : Volume g.row.D.Denot = c.sweep.new.self in
    let early = ap (λ (x : Parts g.row.K-Key.Denot g.row.D.Denot). is_due x) c.self.view_is ∙ c.requires.early in
    let any = c.in-Ok-true.field-0-test in
    let said = c.in-Ok-true.ensures in
    let f = format_of g.K.KeyClass in
    let logged = sweep_so _ _ _ _ _ _ _ _ _ _ c.in-Ok-true.field-0 any said.logged in
    let did = logged.logged in
    rw (← c.self.view_is) (λ l. sweep_leads _ (c.a_class_is_lawful.ensures l) _ _ _ c.args.page _ _ old c.stands.ensures w (is_calm old.checkpoint (not_due old early).0) did.most (flies_on old.volume.log w.log did.logs)
    (nodes_of f _ _ c.in_order.ensures) c.small_removals.ensures.removed logged.slots (λ steady. logged.exact steady (is_held k old) (λ entry answer post. search rules)) (did.keeps l) (λ steady. swept_so _ _ _ _ c.in-Ok-true.field-0 any (said.tells.swept steady (is_held k old) (λ entry answer post. search rules))) (said.own any))

pub returns-in-Ok-false-clause-sweeps : goal.returns-in-Ok-false-clause-sweeps
returns-in-Ok-false-clause-sweeps g c =
    let old : Parts g.row.K-Key.Denot g.row.D.Denot = record { volume = c.self.inside.storage; sessions = c.self.inside.sessions; in_flight = c.self.inside.in_flight; checkpoint = c.self.inside.checkpoint } in
    let k = keys g.K.Key.Ord.cmp g.K.Key.Shape.overlap g.K.Key.Shape.inside in
    let d = g.D.SectorDisk.state old.volume.shelf.disk in
    let f = format_of g.K.KeyClass in
    let some : has_removable (is_held k old) (node_shown f d c.args.page old) ≡ true =
    ap (λ (x : Parts g.row.K-Key.Denot g.row.D.Denot). has_removable (is_held k x) (node_shown f (g.D.SectorDisk.state x.volume.shelf.disk) c.args.page x)) c.self.view_is ∙ c.requires.some in
    let said = c.in-Ok-false.ensures in
    let did = (unswept_so _ _ _ _ _ _ _ _ _ _ c.in-Ok-false.field-0 c.in-Ok-false.field-0-test said.logged).logged in
    rw (← c.self.view_is) (
      (λ steady. absurd (never_none (is_held k old) (node_shown f d c.args.page old) some
          (none_taken _ _ _ _ c.in-Ok-false.field-0 c.in-Ok-false.field-0-test (said.tells.swept steady (is_held k old) (λ entry answer post. search rules))))),
      as_brought old c.sweep.new.self old.sessions did.log did.most did.imaged,
    )

pub returns-in-Ok-false-clause-leads : goal.returns-in-Ok-false-clause-leads
returns-in-Ok-false-clause-leads g c =
    let old : Parts g.row.K-Key.Denot g.row.D.Denot = record { volume = c.self.inside.storage; sessions = c.self.inside.sessions; in_flight = c.self.inside.in_flight; checkpoint = c.self.inside.checkpoint } in
    let w : Volume g.row.D.Denot = c.sweep.new.self in
    let did = (unswept_so _ _ _ _ _ _ _ _ _ _ c.in-Ok-false.field-0 c.in-Ok-false.field-0-test c.in-Ok-false.ensures.logged).logged in
    rw (← c.self.view_is) (λ l. brought_leads _ (c.a_class_is_lawful.ensures l) _ _ _ _ _ old w did.most did.log (did.since 0).goes_on.device (did.keeps l))

pub returns-in-Err-Pages-clause-leads : goal.returns-in-Err-Pages-clause-leads
returns-in-Err-Pages-clause-leads g c =
    let old : Parts g.row.K-Key.Denot g.row.D.Denot = record { volume = c.self.inside.storage; sessions = c.self.inside.sessions; in_flight = c.self.inside.in_flight; checkpoint = c.self.inside.checkpoint } in
    let w : Volume g.row.D.Denot = c.sweep.new.self in
    let refused = of_err _ c.sweep.result (Pages c.in-Err-Pages.fault) (search rules) c.sweep.ensures.unlogged in
    let did = refused.unlogged in
    rw (← c.self.view_is) (λ l. refused_leads _ (c.a_class_is_lawful.ensures l) _ _ _ g.D.SectorDisk.state old w did.most did.log (did.since 0).goes_on.device (did.keeps l)
    (has_room old.volume.log (slots_room old.volume c.args.page refused.slots)) c.in-Err-Pages.fault refused.why c.turn_away.new.self c.turn_away.result c.turn_away.ensures.refused)

pub returns-in-Err-Damaged : goal.returns-in-Err-Damaged
returns-in-Err-Damaged g c =
    let old : Parts g.row.K-Key.Denot g.row.D.Denot = record { volume = c.self.inside.storage; sessions = c.self.inside.sessions; in_flight = c.self.inside.in_flight; checkpoint = c.self.inside.checkpoint } in
    let k = keys g.K.Key.Ord.cmp g.K.Key.Shape.overlap g.K.Key.Shape.inside in
    let d = g.D.SectorDisk.state old.volume.shelf.disk in
    let f = format_of g.K.KeyClass in
    let some : has_removable (is_held k old) (node_shown f d c.args.page old) ≡ true =
    ap (λ (x : Parts g.row.K-Key.Denot g.row.D.Denot). has_removable (is_held k x) (node_shown f (g.D.SectorDisk.state x.volume.shelf.disk) c.args.page x)) c.self.view_is ∙ c.requires.some in
    let high : c.args.page ≤ old.volume.shelf.used = search rules in
    let failed : c.sweep.result ≡ Err Damaged = search rules in
    let did = c.in-Err-Damaged.ensures.unlogged.unlogged in
    let full : IsSteady d old.volume.shelf.frames → CanBeRead (is_node f) d old.volume.shelf → MAX_ENTRIES < length (node_shown f d c.args.page old).pairs =
    λ steady readable. more_than_fit f c.args.page d old (is_held k old) c.requires.from high some (c.sweep.ensures.tells.damaged steady failed) in
    rw (← c.self.view_is, c.fail_event.ensures.failed, c.fail_event.ensures.outcome) (record {
      sweeps = (inr (refl, full), as_brought old c.sweep.new.self (failed_state old.sessions) did.log did.most did.imaged);
      leads = λ l. never_full _ (c.a_class_is_lawful.ensures l) _ _ _ c.args.page d _ old c.stands.ensures _ _ c.requires.from high c.most.ensures.few full;
      device = (did.since 0).goes_on.device;
      told = subst (λ (x : Result Bool (StepFault StoreFault)). CountsFaults (step_fails store_fails) d.faults (g.D.SectorDisk.state c.sweep.new.self.shelf.disk).faults x) failed c.sweep.ensures.told;
    })

pub returns-in-Err-Pages-clause-sweeps : goal.returns-in-Err-Pages-clause-sweeps
returns-in-Err-Pages-clause-sweeps g c =
    let old : Parts g.row.K-Key.Denot g.row.D.Denot = record { volume = c.self.inside.storage; sessions = c.self.inside.sessions; in_flight = c.self.inside.in_flight; checkpoint = c.self.inside.checkpoint } in
    let k = keys g.K.Key.Ord.cmp g.K.Key.Shape.overlap g.K.Key.Shape.inside in
    let d = g.D.SectorDisk.state old.volume.shelf.disk in
    let f = format_of g.K.KeyClass in
    let some : has_removable (is_held k old) (node_shown f d c.args.page old) ≡ true =
    ap (λ (x : Parts g.row.K-Key.Denot g.row.D.Denot). has_removable (is_held k x) (node_shown f (g.D.SectorDisk.state x.volume.shelf.disk) c.args.page x)) c.self.view_is ∙ c.requires.some in
    let high : c.args.page ≤ old.volume.shelf.used = search rules in
    let early = ap (λ (x : Parts g.row.K-Key.Denot g.row.D.Denot). is_due x) c.self.view_is ∙ c.requires.early in
    let refused = of_err _ c.sweep.result (Pages c.in-Err-Pages.fault) (search rules) c.sweep.ensures.unlogged in
    let did = refused.unlogged in
    rw (← c.self.view_is) (turned_comes k _ _ f (is_node f) c.args.page g.D.SectorDisk.state old c.sweep.new.self did.most did.log did.imaged c.requires.from high some early (λ page. (did.since page).same.stamp)
    c.in-Err-Pages.fault refused.slots (λ no_room steady. refused.exact (ap (λ (x : StoreFault). Pages x) no_room) steady (is_held k old) (λ entry answer post. search rules))
    refused.why c.turn_away.new.self c.turn_away.result c.turn_away.ensures.refused)

pub returns-in-Err-Pages-clause-device : goal.returns-in-Err-Pages-clause-device
returns-in-Err-Pages-clause-device g c =
    let state = g.D.SectorDisk.state in
    let refused = of_err _ c.sweep.result (Pages c.in-Err-Pages.fault) (search rules) c.sweep.ensures.unlogged in
    let did = refused.unlogged in
    rw (← c.self.view_is)
    (only_read_joined (state c.self.inside.storage.shelf.disk) (state c.sweep.new.self.shelf.disk) (state c.turn_away.new.self.volume.shelf.disk) (did.since 0).goes_on.device c.turn_away.ensures.device)

pub returns-in-Ok-true-clause-told : goal.returns-in-Ok-true-clause-told
returns-in-Ok-true-clause-told g c =
    let same = c.in-Ok-true.ensures.told in
    rw (← c.self.view_is) (omega (arith, same))

pub returns-in-Ok-false-clause-told : goal.returns-in-Ok-false-clause-told
returns-in-Ok-false-clause-told g c =
    let same = c.in-Ok-false.ensures.told in
    rw (← c.self.view_is) (omega (arith, same))

pub returns-in-Err-Pages-clause-told : goal.returns-in-Err-Pages-clause-told
returns-in-Err-Pages-clause-told g c =
    let e : Parts g.row.K-Key.Denot g.row.D.Denot = record { volume = c.self.inside.storage; sessions = c.self.inside.sessions; in_flight = c.self.inside.in_flight; checkpoint = c.self.inside.checkpoint } in
    let mid : Parts g.row.K-Key.Denot g.row.D.Denot = record e { volume = c.sweep.new.self } in
    let failed : c.sweep.result ≡ Err (Pages c.in-Err-Pages.fault) = search rules in
    let told = subst (λ (x : Result Bool (StepFault StoreFault)). CountsFaults (step_fails store_fails) (g.D.SectorDisk.state e.volume.shelf.disk).faults (g.D.SectorDisk.state c.sweep.new.self.shelf.disk).faults x) failed c.sweep.ensures.told in
    rw (← c.self.view_is) (ends_told g.D.SectorDisk.state e mid c.turn_away.new.self c.turn_away.result (store_fails c.in-Err-Pages.fault) told c.turn_away.ensures.volume c.turn_away.ensures.told)
