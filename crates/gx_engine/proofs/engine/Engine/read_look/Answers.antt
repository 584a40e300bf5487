use Rattle.std.proofs.Common.{◌≡◌, ◌∙◌, ap, refl, subst, sym, ◌-◌, ◌≤◌, ◌<◌, ℕ, Bool, Result, Err, length, rules}
use Rattle.gx_disk.specs.declared.layout.TheConstants.{MAX_PAGES}
use Rattle.gx_machine.specs.Keys.{keys}
use Rattle.gx_node.specs.declared.fault.LookFault.{LookFault}
use Rattle.gx_node.specs.declared.fault.LookFault.TheVariants.{Memory, Step}
use Rattle.gx_node.specs.declared.fault.StepFault.TheVariants.{Damaged, Pages}
use Rattle.gx_node.specs.Owner.{CountsFaults, look_fails}
use Rattle.gx_node.specs.Reading.{format_of, is_node}
use Rattle.gx_phases.specs.declared.phase.Phase.{Phase}
use Rattle.gx_phases.specs.declared.phase.Phase.TheVariants.{Open}
use Rattle.gx_phases.specs.Moves.{failed_state, is_open}
use Rattle.gx_phases.specs.States.{IsKept, phase_at}
use Rattle.gx_pool.proofs.Bringing.{only_read_joined}
use Rattle.gx_pool.specs.Bringing.{OnlyRead}
use Rattle.gx_storage.specs.State.{Volume}
use Rattle.gx_store.specs.declared.fault.StoreFault.{StoreFault}
use Rattle.gx_store.specs.Faults.{store_fails}
use Rattle.gx_store.specs.State.{IsInOrder}
use Rattle.gx_tree.specs.declared.look.Look.{Look}
use Rattle.gx_engine.specs.declared.work.Work.{Work}
use Rattle.gx_engine.specs.declared.work.Work.TheVariants.{Looks}
use Rattle.gx_engine.specs.Looks.{IsFirstUnless, work_before}
use Rattle.gx_engine.specs.Moves.{calling}
use Rattle.gx_engine.specs.Refusals.{IsRefused}
use Rattle.gx_engine.specs.States.{Parts}
use Rattle.gx_engine.specs.Writes.{brought}
use Rattle.gx_engine.proofs.AtWork.{answered_there, brought_phase, put_phase, same_calling, same_look}
use Rattle.gx_engine.proofs.Failing.{ends_told, quiet_told}
use Rattle.gx_engine.proofs.Further.{none_at_hand}
use Rattle.gx_engine.proofs.Reading.{closed_comes, damaged_at_hand, memory_at_hand, of_err, pages_at_hand, refused_comes, with_sessions}
use Rattle.gx_engine.proofs.engine.Engine.read_look.Goals as goal

pub step_look-requires-clause-looks : goal.step_look-requires-clause-looks
step_look-requires-clause-looks g c =
    (c.requires.looks.0, c.requires.looks.1, c.requires.looks.2, c.requires.looks.3)

pub close-requires-clause-open : goal.close-requires-clause-open
close-requires-clause-open g c =
    let e : Parts g.row.K-Key.Denot g.row.D.Denot = c.args.self.now in
    let k = keys g.K.Key.Ord.cmp g.K.Key.Shape.overlap g.K.Key.Shape.inside in
    let kept = subst (λ (x : Parts g.row.K-Key.Denot g.row.D.Denot). IsKept k x.sessions) c.self.view_is c.stands.ensures in
    let m : Parts g.row.K-Key.Denot g.row.D.Denot = c.step_look.new.self in
    let failed : c.step_look.result ≡ Err Memory = search rules in
    let r = of_err _ c.step_look.result Memory failed c.step_look.ensures.refused c.requires.looks.0 c.requires.looks.1 c.requires.looks.2 in
    ap (λ (p : Phase g.row.K-Key.Denot (Work g.row.K-Key.Denot)). is_open p) (put_phase c.args.session e k kept c.requires.session c.requires.looks.0 (Looks r.0) m r.1)

pub returns-in-Err-Memory-clause-stops : goal.returns-in-Err-Memory-clause-stops
returns-in-Err-Memory-clause-stops g c call look at =
    let e : Parts g.row.K-Key.Denot g.row.D.Denot = c.args.self.now in
    let k = keys g.K.Key.Ord.cmp g.K.Key.Shape.overlap g.K.Key.Shape.inside in
    let kept = subst (λ (x : Parts g.row.K-Key.Denot g.row.D.Denot). IsKept k x.sessions) c.self.view_is c.stands.ensures in
    let m : Parts g.row.K-Key.Denot g.row.D.Denot = c.step_look.new.self in
    let did = c.step_look.ensures.unlogged in
    let failed : c.step_look.result ≡ Err Memory = search rules in
    let r = of_err _ c.step_look.result Memory failed c.step_look.ensures.refused call look at in
    rw (answered_there c.args.session e call (Looks r.0) m c.close.new.self r.1 c.close.ensures.closed, c.close.ensures.outcome)
    (closed_comes k (is_node (format_of g.K.KeyClass)) g.D.SectorDisk.state e kept
    c.args.session c.requires.session call (Looks look) at (work_before c.args.begun look) m.volume did.log did.most did.imaged)

pub returns-in-Err-Memory-clause-moves : goal.returns-in-Err-Memory-clause-moves
returns-in-Err-Memory-clause-moves g c call look at may l =
    let e : Parts g.row.K-Key.Denot g.row.D.Denot = c.args.self.now in
    let k = keys g.K.Key.Ord.cmp g.K.Key.Shape.overlap g.K.Key.Shape.inside in
    let kept = subst (λ (x : Parts g.row.K-Key.Denot g.row.D.Denot). IsKept k x.sessions) c.self.view_is c.stands.ensures in
    let m : Parts g.row.K-Key.Denot g.row.D.Denot = c.step_look.new.self in
    let did = c.step_look.ensures.unlogged in
    let failed : c.step_look.result ≡ Err Memory = search rules in
    let r = of_err _ c.step_look.result Memory failed c.step_look.ensures.refused call look at in
    rw (answered_there c.args.session e call (Looks r.0) m c.close.new.self r.1 c.close.ensures.closed, c.close.ensures.outcome)
    (memory_at_hand _ (c.a_class_is_lawful.ensures l) _ _ _ g.D.SectorDisk.state e kept c.args.session c.requires.session call (Looks look) at (work_before c.args.begun look) c.requires.works
    m.volume did.most did.log (did.since 0).goes_on.device (did.keeps l))

pub returns-in-Err-Step-Pages-clause-stops : goal.returns-in-Err-Step-Pages-clause-stops
returns-in-Err-Step-Pages-clause-stops g c call look at =
    let e : Parts g.row.K-Key.Denot g.row.D.Denot = c.args.self.now in
    let k = keys g.K.Key.Ord.cmp g.K.Key.Shape.overlap g.K.Key.Shape.inside in
    let m : Parts g.row.K-Key.Denot g.row.D.Denot = c.step_look.new.self in
    let did = c.step_look.ensures.unlogged in
    let failed : c.step_look.result ≡ Err (Step (Pages c.in-Err-Step-Pages.fault)) = search rules in
    let r = of_err _ c.step_look.result (Step (Pages c.in-Err-Step-Pages.fault)) failed c.step_look.ensures.refused call look at in
    let why = of_err _ c.step_look.result (Step (Pages c.in-Err-Step-Pages.fault)) failed c.step_look.ensures.why in
    let put = c.unless_begun.ensures.held call look (brought_phase c.args.session e m r (Open call (Looks look)) at)
    ∙ same_calling c.args.session call (work_before c.args.begun look) e m r in
    refused_comes (is_node (format_of g.K.KeyClass)) g.D.SectorDisk.state _
    c.args.session (calling c.args.session call (work_before c.args.begun look) e) m.volume did.log did.most did.imaged (λ page. (did.since page).same.stamp) c.in-Err-Step-Pages.fault
    why c.refuse.new.self c.refuse.result
    (subst (λ (x : Parts g.row.K-Key.Denot g.row.D.Denot). IsRefused c.in-Err-Step-Pages.fault x c.refuse.new.self c.refuse.result) put c.refuse.ensures.refused)

pub returns-in-Err-Step-Pages-clause-moves : goal.returns-in-Err-Step-Pages-clause-moves
returns-in-Err-Step-Pages-clause-moves g c call look at may l =
    let e : Parts g.row.K-Key.Denot g.row.D.Denot = c.args.self.now in
    let k = keys g.K.Key.Ord.cmp g.K.Key.Shape.overlap g.K.Key.Shape.inside in
    let kept = subst (λ (x : Parts g.row.K-Key.Denot g.row.D.Denot). IsKept k x.sessions) c.self.view_is c.stands.ensures in
    let m : Parts g.row.K-Key.Denot g.row.D.Denot = c.step_look.new.self in
    let did = c.step_look.ensures.unlogged in
    let failed : c.step_look.result ≡ Err (Step (Pages c.in-Err-Step-Pages.fault)) = search rules in
    let r = of_err _ c.step_look.result (Step (Pages c.in-Err-Step-Pages.fault)) failed c.step_look.ensures.refused call look at in
    let why = of_err _ c.step_look.result (Step (Pages c.in-Err-Step-Pages.fault)) failed c.step_look.ensures.why in
    let put = c.unless_begun.ensures.held call look (brought_phase c.args.session e m r (Open call (Looks look)) at)
    ∙ same_calling c.args.session call (work_before c.args.begun look) e m r in
    pages_at_hand _ (c.a_class_is_lawful.ensures l) _ _ _ g.D.SectorDisk.state e kept c.args.session c.requires.session call (Looks look) at (work_before c.args.begun look) c.requires.works
    m.volume did.most did.log (did.since 0).goes_on.device (did.keeps l) c.in-Err-Step-Pages.fault why c.refuse.new.self c.refuse.result
    (subst (λ (x : Parts g.row.K-Key.Denot g.row.D.Denot). IsRefused c.in-Err-Step-Pages.fault x c.refuse.new.self c.refuse.result) put c.refuse.ensures.refused)

pub returns-in-Err-Step-Damaged-clause-stops : goal.returns-in-Err-Step-Damaged-clause-stops
returns-in-Err-Step-Damaged-clause-stops g c call look at =
    let e : Parts g.row.K-Key.Denot g.row.D.Denot = c.args.self.now in
    let m : Parts g.row.K-Key.Denot g.row.D.Denot = c.step_look.new.self in
    let did = c.step_look.ensures.unlogged in
    let failed : c.step_look.result ≡ Err (Step Damaged) = search rules in
    let r = of_err _ c.step_look.result (Step Damaged) failed c.step_look.ensures.refused call look at in
    let put = c.unless_begun-in-Err-Step-Damaged.ensures.held call look (brought_phase c.args.session e m r.0 (Open call (Looks look)) at)
    ∙ same_calling c.args.session call (work_before c.args.begun look) e m r.0 in
    let was : Parts g.row.K-Key.Denot g.row.D.Denot = calling c.args.session call (work_before c.args.begun look) e in
    let known = c.break_off.ensures.failed ∙ ap (λ (x : Parts g.row.K-Key.Denot g.row.D.Denot). record x { sessions = failed_state x.sessions }) put in
    rw (known, c.break_off.ensures.outcome)
    (with_sessions (is_node (format_of g.K.KeyClass)) g.D.SectorDisk.state (g.D.SectorDisk.state e.volume.shelf.disk) c.args.session was m.volume did.log did.most did.imaged (failed_state was.sessions))

pub returns-in-Err-Step-Damaged-clause-moves : goal.returns-in-Err-Step-Damaged-clause-moves
returns-in-Err-Step-Damaged-clause-moves g c call look at may l =
    let e : Parts g.row.K-Key.Denot g.row.D.Denot = c.args.self.now in
    let k = keys g.K.Key.Ord.cmp g.K.Key.Shape.overlap g.K.Key.Shape.inside in
    let kept = subst (λ (x : Parts g.row.K-Key.Denot g.row.D.Denot). IsKept k x.sessions) c.self.view_is c.stands.ensures in
    let m : Parts g.row.K-Key.Denot g.row.D.Denot = c.step_look.new.self in
    let did = c.step_look.ensures.unlogged in
    let failed : c.step_look.result ≡ Err (Step Damaged) = search rules in
    let r = of_err _ c.step_look.result (Step Damaged) failed c.step_look.ensures.refused call look at in
    let order = subst (λ (x : Parts g.row.K-Key.Denot g.row.D.Denot).
    IsInOrder (is_node (format_of g.K.KeyClass) x.volume.shelf.pages) (g.D.SectorDisk.state x.volume.shelf.disk).sectors x.volume.shelf.frames x.volume.shelf.used x.volume.shelf.pages)
    c.self.view_is c.in_order.ensures in
    let few = subst (λ (x : Parts g.row.K-Key.Denot g.row.D.Denot). x.volume.most ≤ 100) c.self.view_is c.most.ensures.few in
    let one = same_look (phase_at (c.args.session - 1) e.sessions.phases) c.requires.looks.0 call c.requires.looks.1 look c.requires.looks.2 at in
    let some = subst (λ (x : Look g.row.K-Key.Denot). 0 < length x.stack.items) one c.requires.looks.3 in
    let first = subst (λ (x : Look g.row.K-Key.Denot). IsFirstUnless c.args.begun e x) one c.requires.looks.4 in
    none_at_hand _ (c.a_class_is_lawful.ensures l) _ _ _ (g.D.SectorDisk.state e.volume.shelf.disk) e kept c.args.session c.requires.session call (Looks look) at look
    may order.few few c.args.begun first
    (damaged_at_hand _ (c.a_class_is_lawful.ensures l) _ _ _ g.D.SectorDisk.state e kept c.args.session c.requires.session call (Looks look) at look c.requires.works
    m.volume did.most did.log (did.since 0).goes_on.device (did.keeps l) (c.a_volume_shows_the_logs_tree.ensures l m.volume) some r.1)
    _ _ _ _

pub returns-in-Ok-clause-device : goal.returns-in-Ok-clause-device
returns-in-Ok-clause-device g c =
    (c.step_look.ensures.unlogged.since 0).goes_on.device

pub returns-in-Err-Memory-clause-device : goal.returns-in-Err-Memory-clause-device
returns-in-Err-Memory-clause-device g c =
    let e : Parts g.row.K-Key.Denot g.row.D.Denot = c.args.self.now in
    let m : Parts g.row.K-Key.Denot g.row.D.Denot = c.step_look.new.self in
    let state = g.D.SectorDisk.state in
    only_read_joined (state e.volume.shelf.disk) (state m.volume.shelf.disk) (state c.close.new.self.volume.shelf.disk) (c.step_look.ensures.unlogged.since 0).goes_on.device c.close.ensures.device

pub returns-in-Err-Step-Pages-clause-device : goal.returns-in-Err-Step-Pages-clause-device
returns-in-Err-Step-Pages-clause-device g c =
    let e : Parts g.row.K-Key.Denot g.row.D.Denot = c.args.self.now in
    let u : Parts g.row.K-Key.Denot g.row.D.Denot = c.unless_begun.new.self in
    let state = g.D.SectorDisk.state in
    only_read_joined (state e.volume.shelf.disk) (state u.volume.shelf.disk) (state c.refuse.new.self.volume.shelf.disk) (subst (λ (v : Volume g.row.D.Denot). OnlyRead (g.D.SectorDisk.state e.volume.shelf.disk) (g.D.SectorDisk.state v.shelf.disk)) (sym c.unless_begun.ensures.volume) (c.step_look.ensures.unlogged.since 0).goes_on.device) c.refuse.ensures.device

pub returns-in-Err-Step-Damaged-clause-device : goal.returns-in-Err-Step-Damaged-clause-device
returns-in-Err-Step-Damaged-clause-device g c =
    let e : Parts g.row.K-Key.Denot g.row.D.Denot = c.args.self.now in
    let u : Parts g.row.K-Key.Denot g.row.D.Denot = c.unless_begun-in-Err-Step-Damaged.new.self in
    let state = g.D.SectorDisk.state in
    only_read_joined (state e.volume.shelf.disk) (state u.volume.shelf.disk) (state c.break_off.new.self.volume.shelf.disk) (subst (λ (v : Volume g.row.D.Denot). OnlyRead (g.D.SectorDisk.state e.volume.shelf.disk) (g.D.SectorDisk.state v.shelf.disk)) (sym c.unless_begun-in-Err-Step-Damaged.ensures.volume) (c.step_look.ensures.unlogged.since 0).goes_on.device) c.break_off.ensures.device

pub returns-in-Ok-clause-told : goal.returns-in-Ok-clause-told
returns-in-Ok-clause-told g c =
    c.in-Ok.ensures.told

pub returns-in-Err-Memory-clause-told : goal.returns-in-Err-Memory-clause-told
returns-in-Err-Memory-clause-told g c =
    let e : Parts g.row.K-Key.Denot g.row.D.Denot = c.args.self.now in
    let m : Parts g.row.K-Key.Denot g.row.D.Denot = c.step_look.new.self in
    let failed : c.step_look.result ≡ Err Memory = search rules in
    let told = subst (λ (x : Result Bool (LookFault StoreFault)). CountsFaults (look_fails store_fails) (g.D.SectorDisk.state e.volume.shelf.disk).faults (g.D.SectorDisk.state m.volume.shelf.disk).faults x) failed c.step_look.ensures.told in
    quiet_told g.D.SectorDisk.state e m c.close.new.self 0 c.close.result _ refl told (ap (λ (x : Parts g.row.K-Key.Denot g.row.D.Denot). x.volume) c.close.ensures.closed) c.close.ensures.outcome refl

pub returns-in-Err-Step-Pages-clause-told : goal.returns-in-Err-Step-Pages-clause-told
returns-in-Err-Step-Pages-clause-told g c =
    let e : Parts g.row.K-Key.Denot g.row.D.Denot = c.args.self.now in
    let m : Parts g.row.K-Key.Denot g.row.D.Denot = c.step_look.new.self in
    let failed : c.step_look.result ≡ Err (Step (Pages c.in-Err-Step-Pages.fault)) = search rules in
    let told = subst (λ (x : Result Bool (LookFault StoreFault)). CountsFaults (look_fails store_fails) (g.D.SectorDisk.state e.volume.shelf.disk).faults (g.D.SectorDisk.state m.volume.shelf.disk).faults x) failed c.step_look.ensures.told in
    ends_told g.D.SectorDisk.state e m c.refuse.new.self c.refuse.result (store_fails c.in-Err-Step-Pages.fault) told (c.refuse.ensures.volume ∙ c.unless_begun.ensures.volume) c.refuse.ensures.told

pub returns-in-Err-Step-Damaged-clause-told : goal.returns-in-Err-Step-Damaged-clause-told
returns-in-Err-Step-Damaged-clause-told g c =
    let e : Parts g.row.K-Key.Denot g.row.D.Denot = c.args.self.now in
    let m : Parts g.row.K-Key.Denot g.row.D.Denot = c.step_look.new.self in
    let failed : c.step_look.result ≡ Err (Step Damaged) = search rules in
    let told = subst (λ (x : Result Bool (LookFault StoreFault)). CountsFaults (look_fails store_fails) (g.D.SectorDisk.state e.volume.shelf.disk).faults (g.D.SectorDisk.state m.volume.shelf.disk).faults x) failed c.step_look.ensures.told in
    quiet_told g.D.SectorDisk.state e m c.break_off.new.self 0 c.break_off.result _ refl told (ap (λ (x : Parts g.row.K-Key.Denot g.row.D.Denot). x.volume) c.break_off.ensures.failed ∙ c.unless_begun-in-Err-Step-Damaged.ensures.volume) c.break_off.ensures.outcome refl
