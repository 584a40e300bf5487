use Rattle.std.proofs.Common.{◌≡◌, ◌∙◌, sym, ap, subst, ◌-◌, true, false}
use Rattle.gx_machine.specs.Keys.{keys}
use Rattle.gx_phases.specs.declared.phase.Phase.{Phase}
use Rattle.gx_phases.specs.declared.phase.Phase.TheVariants as phase
use Rattle.gx_phases.specs.States.{IsKept, phase_at}
use Rattle.gx_engine.specs.declared.work.Work.{Work}
use Rattle.gx_engine.specs.States.{Parts}
use Rattle.gx_engine.specs.Stepping.{has_call}
use Rattle.gx_engine.proofs.step.Steps.{acknowledge_steps, ended_steps, no_call_steps, undo_steps}
use Rattle.gx_engine.proofs.Calling.{acknowledge_read, undo_read}
use Rattle.gx_engine.proofs.Failing.{acknowledge_told}
use Rattle.gx_engine.proofs.engine.Engine.move_on.Goals as goal

pub returns-then-not-has_call-clause-steps : goal.returns-then-not-has_call-clause-steps
returns-then-not-has_call-clause-steps g c l =
    let k = keys g.K.Key.Ord.cmp g.K.Key.Shape.overlap g.K.Key.Shape.inside in
    let kept = subst (λ (x : Parts g.row.K-Key.Denot g.row.D.Denot). IsKept k x.sessions) c.self.view_is c.has_failed-failed.ensures.kept in
    let is = sym c.is_session.ensures ∙ c.if-not-is_session.false in
    let none = ap (λ (p : Phase g.row.K-Key.Denot (Work g.row.K-Key.Denot)). has_call p) (sym c.phase-now.ensures) ∙ sym c.has_call.ensures ∙ c.if-not-has_call.true in
    no_call_steps _ _ _ _ _ c.args.self.now c.args.session kept is
    (subst (λ (x : Parts g.row.K-Key.Denot g.row.D.Denot). has_call (phase_at (c.args.session - 1) x.sessions.phases) ≡ false) c.self.view_is none)

pub returns-then-failed-clause-steps : goal.returns-then-failed-clause-steps
returns-then-failed-clause-steps g c l =
    let k = keys g.K.Key.Ord.cmp g.K.Key.Shape.overlap g.K.Key.Shape.inside in
    let kept = subst (λ (x : Parts g.row.K-Key.Denot g.row.D.Denot). IsKept k x.sessions) c.self.view_is c.has_failed-failed.ensures.kept in
    let is = sym c.is_session.ensures ∙ c.if-not-is_session.false in
    let some = ap (λ (p : Phase g.row.K-Key.Denot (Work g.row.K-Key.Denot)). has_call p) (sym c.phase-now.ensures) ∙ sym c.has_call.ensures ∙ c.if-not-has_call.false in
    let failed = sym c.has_failed-failed.ensures.failed ∙ c.if-failed.true in
    ended_steps _ _ _ _ _ c.args.self.now c.args.session kept is (c.a_class_is_lawful.ensures l)
    (subst (λ (x : Parts g.row.K-Key.Denot g.row.D.Denot). x.sessions.failed ≡ true) c.self.view_is failed)
    (subst (λ (x : Parts g.row.K-Key.Denot g.row.D.Denot). has_call (phase_at (c.args.session - 1) x.sessions.phases) ≡ true) c.self.view_is some)

pub returns-in-Undoing-clause-steps : goal.returns-in-Undoing-clause-steps
returns-in-Undoing-clause-steps g c l =
    let works = sym c.has_failed-failed.ensures.failed ∙ c.if-failed.false in
    undo_steps _ _ _ _ _ _ c.args.self.now c.undo.new.self
    (subst (λ (x : Parts g.row.K-Key.Denot g.row.D.Denot). x.sessions.failed ≡ false) c.self.view_is works) c.args.session _ _ _ _ _ c.undo.result c.undo.ensures.comes (c.undo.ensures.moves l)

pub returns-in-Waiting-clause-steps : goal.returns-in-Waiting-clause-steps
returns-in-Waiting-clause-steps g c l =
    let works = sym c.has_failed-failed.ensures.failed ∙ c.if-failed.false in
    let waits = subst (λ (x : Parts g.row.K-Key.Denot g.row.D.Denot). phase_at (c.args.session - 1) x.sessions.phases ≡ phase.Waiting c.in-Waiting.field-0) c.self.view_is
    (sym c.phase-now.ensures ∙ c.in-Waiting.is) in
    acknowledge_steps _ _ _ _ _ _ c.args.self.now c.acknowledge.new.self
    (subst (λ (x : Parts g.row.K-Key.Denot g.row.D.Denot). x.sessions.failed ≡ false) c.self.view_is works) c.args.session c.in-Waiting.field-0 c.acknowledge.result
    (c.acknowledge.ensures.comes c.in-Waiting.field-0 waits) (c.acknowledge.ensures.leads c.in-Waiting.field-0 waits l)

pub returns-in-Undoing-clause-device : goal.returns-in-Undoing-clause-device
returns-in-Undoing-clause-device g c =
    undo_read g.D.SectorDisk.state c.args.self.now c.undo.new.self _ _ _ _ _ _ _ _ c.args.session c.undo.result c.undo.ensures.comes

pub returns-in-Waiting-clause-device : goal.returns-in-Waiting-clause-device
returns-in-Waiting-clause-device g c =
    let waits = subst (λ (x : Parts g.row.K-Key.Denot g.row.D.Denot). phase_at (c.args.session - 1) x.sessions.phases ≡ phase.Waiting c.in-Waiting.field-0) c.self.view_is
    (sym c.phase-now.ensures ∙ c.in-Waiting.is) in
    acknowledge_read g.D.SectorDisk.state c.args.self.now c.acknowledge.new.self c.args.session c.in-Waiting.field-0 c.acknowledge.result (c.acknowledge.ensures.comes c.in-Waiting.field-0 waits)

pub returns-in-Waiting-clause-told : goal.returns-in-Waiting-clause-told
returns-in-Waiting-clause-told g c =
    let waits = subst (λ (x : Parts g.row.K-Key.Denot g.row.D.Denot). phase_at (c.args.session - 1) x.sessions.phases ≡ phase.Waiting c.in-Waiting.field-0) c.self.view_is
    (sym c.phase-now.ensures ∙ c.in-Waiting.is) in
    acknowledge_told g.D.SectorDisk.state c.acknowledge.new.self c.args.self.now c.args.session c.in-Waiting.field-0 c.acknowledge.result (c.acknowledge.ensures.comes c.in-Waiting.field-0 waits)
