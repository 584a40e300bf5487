use Rattle.std.proofs.Common.{◌≡◌, ◌∙◌, ap, sym, inl, inr, true, false, Result, Ok, Err, Bool}
use Rattle.gx_geom.specs.declared.refusal.Refusal.{Refusal}
use Rattle.gx_pool.specs.Marks.{is_gated}
use Rattle.gx_pool.specs.State.{kept, stamp_of}
use Rattle.gx_recovery.proofs.Tests.{true_or_false}
use Rattle.gx_storage.specs.State.{Volume}
use Rattle.gx_engine.specs.States.{Parts}
use Rattle.gx_engine.proofs.Flushing.{nothing_spared, page_fails, page_made}
use Rattle.gx_engine.proofs.Serving.{writes_still}
use Rattle.gx_engine.proofs.engine.Engine.write_page.Goals as goal

pub returns-in-Ok-true-clause-leads : goal.returns-in-Ok-true-clause-leads
returns-in-Ok-true-clause-leads g c =
    let old : Parts g.row.K-Key.Denot g.row.D.Denot = record { volume = c.self.inside.storage; sessions = c.self.inside.sessions; in_flight = c.self.inside.in_flight; checkpoint = c.self.inside.checkpoint } in
    let w = c.write_page.new.self in
    let state = g.D.SectorDisk.state in
    let did = c.write_page.ensures in
    let gated : is_gated old.volume.shelf.frames.gated (stamp_of (kept old.volume.shelf.frames c.args.page)) ≡ true = sym c.in-Ok-true.ensures.answer ∙ c.in-Ok-true.field-0-test in
    let still = writes_still old.checkpoint old.volume c.args.page c.self.invariant.stands gated in
    rw (← c.self.view_is) (λ l. page_made _ (c.a_class_is_lawful.ensures l) _ _ _
    (state old.volume.shelf.disk) (state w.shelf.disk) old w (ap (λ (v : Volume g.row.D.Denot). v.most) did.only) still.0 (ap (λ (v : Volume g.row.D.Denot). v.log) did.only) still.1 (did.keeps gated l))

pub returns-in-Err-clause-leads : goal.returns-in-Err-clause-leads
returns-in-Err-clause-leads g c =
    let old : Parts g.row.K-Key.Denot g.row.D.Denot = record { volume = c.self.inside.storage; sessions = c.self.inside.sessions; in_flight = c.self.inside.in_flight; checkpoint = c.self.inside.checkpoint } in
    let w = c.write_page.new.self in
    let state = g.D.SectorDisk.state in
    let did = c.write_page.ensures in
    let may : Bool = is_gated old.volume.shelf.frames.gated (stamp_of (kept old.volume.shelf.frames c.args.page)) in
    let gated : may ≡ true =
    elim (true_or_false may) [
      | inl does ↦ does
      | inr fails ↦ absurd (let both : ◌≡◌ {A = Result Bool Refusal} (Err c.in-Err.field-0) (Ok false) = sym c.in-Err.is ∙ (did.idle fails).0 in cc)
    ] in
    let still = writes_still old.checkpoint old.volume c.args.page c.self.invariant.stands gated in
    rw (← c.self.view_is, c.fail.ensures.failed, c.fail.ensures.outcome) (λ l. page_fails _ (c.a_class_is_lawful.ensures l) _ _ _
    (state old.volume.shelf.disk) (state w.shelf.disk) old w (ap (λ (v : Volume g.row.D.Denot). v.most) did.only) still.0 (ap (λ (v : Volume g.row.D.Denot). v.log) did.only) still.1 (did.keeps gated l))

pub returns-then-has_failed-clause-leads : goal.returns-then-has_failed-clause-leads
returns-then-has_failed-clause-leads g c = λ l. nothing_spared _ _ _ _ _ c.args.self.now

pub returns-in-Ok-false-clause-leads : goal.returns-in-Ok-false-clause-leads
returns-in-Ok-false-clause-leads g c =
    let old : Parts g.row.K-Key.Denot g.row.D.Denot = record { volume = c.self.inside.storage; sessions = c.self.inside.sessions; in_flight = c.self.inside.in_flight; checkpoint = c.self.inside.checkpoint } in
    let may_not : is_gated old.volume.shelf.frames.gated (stamp_of (kept old.volume.shelf.frames c.args.page)) ≡ false = sym c.in-Ok-false.ensures.answer ∙ c.in-Ok-false.field-0-test in
    let same : c.write_page.new.self ≡ old.volume = (c.write_page.ensures.idle may_not).1 in
    rw (← c.self.view_is, same) (λ l. nothing_spared _ _ _ _ _ old)
