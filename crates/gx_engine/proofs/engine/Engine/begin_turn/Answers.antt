use Rattle.std.proofs.Common.{◌≡◌, ◌≤◌, ◌∙◌, ap, subst, sym, ℕ, length}
use Rattle.gx_geom.specs.declared.refusal.Refusal.TheVariants.{Damaged}
use Rattle.gx_glog.specs.declared.stage.Turn.TheVariants.{Closed}
use Rattle.gx_pool.specs.State.{NoneDirty}
use Rattle.gx_events.specs.declared.outcome.Outcome.TheVariants.{Refused}
use Rattle.gx_storage.specs.State.{Volume}
use Rattle.gx_engine.specs.declared.checkpoint.Checkpoint.{Checkpoint}
use Rattle.gx_engine.specs.declared.checkpoint.Checkpoint.TheVariants.{Running}
use Rattle.gx_engine.specs.Checkpoints.{IsQuiet}
use Rattle.gx_engine.specs.States.{Parts, StandsIn}
use Rattle.gx_engine.proofs.checkpoints.Turns.{running_is_calm}
use Rattle.gx_engine.proofs.checkpoints.Begins.{never_full, sync_fails, turn_led}
use Rattle.gx_engine.proofs.engine.Engine.begin_turn.Goals as goal

pub invariant_of-self : goal.invariant_of-self
invariant_of-self g c =
    let old : Parts g.row.K-Key.Denot g.row.D.Denot = record { volume = c.self.inside.storage; sessions = c.self.inside.sessions; in_flight = c.self.inside.in_flight; checkpoint = c.self.inside.checkpoint } in
    let u = c.sync.new.self in
    let state = g.D.SectorDisk.state in
    let works = ap (λ (x : Parts g.row.K-Key.Denot g.row.D.Denot). x.sessions.failed) c.self.view_is ∙ c.requires.works in
    let running : old.checkpoint ≡ Running = ap (λ (x : Parts g.row.K-Key.Denot g.row.D.Denot). x.checkpoint) c.self.view_is ∙ c.requires.running in
    let quiet : IsQuiet old.volume = subst (λ (x : Parts g.row.K-Key.Denot g.row.D.Denot). IsQuiet x.volume) (sym c.self.view_is) c.requires.quiet in
    let clean : NoneDirty old.volume.shelf.frames = subst (λ (x : Parts g.row.K-Key.Denot g.row.D.Denot). NoneDirty x.volume.shelf.frames) (sym c.self.view_is) c.requires.clean in
    let closed : old.volume.log.turn ≡ Closed = subst (λ (x : Checkpoint). StandsIn x old.volume) running c.self.invariant.stands in
    let only = c.sync.ensures.only in
    let w = c.put_head.new.storage in
    let put = c.in-Ok-put_head.ensures.only in
    record {
      stands = record {
        idle = ap (λ (v : Volume g.row.D.Denot). v.log.stage) put ∙ ap (λ (v : Volume g.row.D.Denot). v.log.stage) only ∙ quiet.idle;
        quiet = ap (λ (v : Volume g.row.D.Denot). v.log.filling) put ∙ ap (λ (v : Volume g.row.D.Denot). v.log.filling) only ∙ quiet.quiet;
        head = c.in-Ok-put_head.ensures.some;
        clean = subst (λ (v : Volume g.row.D.Denot). NoneDirty v.shelf.frames) (sym put) (subst (λ (v : Volume g.row.D.Denot). NoneDirty v.shelf.frames) (sym only) clean);
      };
      durable = c.self.invariant.durable;
      sealed = c.self.invariant.sealed;
      some = subst (λ (n : ℕ). 4 ≤ n) (sym (ap (λ (v : Volume g.row.D.Denot). v.most) put ∙ ap (λ (v : Volume g.row.D.Denot). v.most) only)) c.self.invariant.some;
      space = c.self.invariant.space;
      frames =
          subst (λ (n : ℕ). 16 ≤ n) (sym (ap (λ (v : Volume g.row.D.Denot). length v.shelf.frames.marks) put ∙ ap (λ (v : Volume g.row.D.Denot). length v.shelf.frames.marks) only))
          c.self.invariant.frames;
    }

pub returns-in-Ok-put_head-clause-leads : goal.returns-in-Ok-put_head-clause-leads
returns-in-Ok-put_head-clause-leads g c =
    let old : Parts g.row.K-Key.Denot g.row.D.Denot = record { volume = c.self.inside.storage; sessions = c.self.inside.sessions; in_flight = c.self.inside.in_flight; checkpoint = c.self.inside.checkpoint } in
    let u = c.sync.new.self in
    let state = g.D.SectorDisk.state in
    let works = ap (λ (x : Parts g.row.K-Key.Denot g.row.D.Denot). x.sessions.failed) c.self.view_is ∙ c.requires.works in
    let running : old.checkpoint ≡ Running = ap (λ (x : Parts g.row.K-Key.Denot g.row.D.Denot). x.checkpoint) c.self.view_is ∙ c.requires.running in
    let quiet : IsQuiet old.volume = subst (λ (x : Parts g.row.K-Key.Denot g.row.D.Denot). IsQuiet x.volume) (sym c.self.view_is) c.requires.quiet in
    let clean : NoneDirty old.volume.shelf.frames = subst (λ (x : Parts g.row.K-Key.Denot g.row.D.Denot). NoneDirty x.volume.shelf.frames) (sym c.self.view_is) c.requires.clean in
    let closed : old.volume.log.turn ≡ Closed = subst (λ (x : Checkpoint). StandsIn x old.volume) running c.self.invariant.stands in
    let only = c.sync.ensures.only in
    let w = c.put_head.new.storage in
    let same : state w.shelf.disk ≡ state u.shelf.disk = ap (λ (v : Volume g.row.D.Denot). state v.shelf.disk) c.in-Ok-put_head.ensures.only in
    rw (← c.self.view_is, same) (λ l. turn_led _ (c.a_class_is_lawful.ensures l) _ _ _
    (state old.volume.shelf.disk) (state u.shelf.disk) old c.stands.ensures works (running_is_calm old.checkpoint running) quiet clean closed u w
    (ap (λ (v : Volume g.row.D.Denot). v.log) only) (ap (λ (v : Volume g.row.D.Denot). v.shelf.counter) only) (ap (λ (v : Volume g.row.D.Denot). v.shelf.used) only)
    (ap (λ (v : Volume g.row.D.Denot). v.most) only) (c.in-Ok.ensures.keeps l) c.in-Ok.ensures.settled c.in-Ok-put_head.ensures.only c.in-Ok-put_head.ensures.puts)

pub returns-in-Err-put_head-clause-leads : goal.returns-in-Err-put_head-clause-leads
returns-in-Err-put_head-clause-leads g c =
    let old : Parts g.row.K-Key.Denot g.row.D.Denot = record { volume = c.self.inside.storage; sessions = c.self.inside.sessions; in_flight = c.self.inside.in_flight; checkpoint = c.self.inside.checkpoint } in
    let u = c.sync.new.self in
    let state = g.D.SectorDisk.state in
    let works = ap (λ (x : Parts g.row.K-Key.Denot g.row.D.Denot). x.sessions.failed) c.self.view_is ∙ c.requires.works in
    let running : old.checkpoint ≡ Running = ap (λ (x : Parts g.row.K-Key.Denot g.row.D.Denot). x.checkpoint) c.self.view_is ∙ c.requires.running in
    let quiet : IsQuiet old.volume = subst (λ (x : Parts g.row.K-Key.Denot g.row.D.Denot). IsQuiet x.volume) (sym c.self.view_is) c.requires.quiet in
    let clean : NoneDirty old.volume.shelf.frames = subst (λ (x : Parts g.row.K-Key.Denot g.row.D.Denot). NoneDirty x.volume.shelf.frames) (sym c.self.view_is) c.requires.clean in
    let closed : old.volume.log.turn ≡ Closed = subst (λ (x : Checkpoint). StandsIn x old.volume) running c.self.invariant.stands in
    let only = c.sync.ensures.only in
    let w = c.put_head.new.storage in
    let same : state w.shelf.disk ≡ state u.shelf.disk = ap (λ (v : Volume g.row.D.Denot). state v.shelf.disk) c.in-Err-put_head.ensures.only in
    rw (← c.self.view_is, c.fail_event.ensures.failed, c.fail_event.ensures.outcome, same) (λ l. never_full _ (c.a_class_is_lawful.ensures l) _ _ _
    (state old.volume.shelf.disk) (state u.shelf.disk) old c.stands.ensures works (running_is_calm old.checkpoint running) quiet clean closed u w
    (ap (λ (v : Volume g.row.D.Denot). v.log) only) (ap (λ (v : Volume g.row.D.Denot). v.shelf.counter) only) (ap (λ (v : Volume g.row.D.Denot). v.shelf.used) only)
    (ap (λ (v : Volume g.row.D.Denot). v.most) only) (c.in-Ok.ensures.keeps l) c.in-Ok.ensures.settled c.in-Err-put_head.ensures.only c.in-Err-put_head.field-0 c.in-Err-put_head.ensures.puts _ (Refused Damaged))

pub returns-in-Err-clause-leads : goal.returns-in-Err-clause-leads
returns-in-Err-clause-leads g c =
    let old : Parts g.row.K-Key.Denot g.row.D.Denot = record { volume = c.self.inside.storage; sessions = c.self.inside.sessions; in_flight = c.self.inside.in_flight; checkpoint = c.self.inside.checkpoint } in
    let u = c.sync.new.self in
    let state = g.D.SectorDisk.state in
    let works = ap (λ (x : Parts g.row.K-Key.Denot g.row.D.Denot). x.sessions.failed) c.self.view_is ∙ c.requires.works in
    let running : old.checkpoint ≡ Running = ap (λ (x : Parts g.row.K-Key.Denot g.row.D.Denot). x.checkpoint) c.self.view_is ∙ c.requires.running in
    let quiet : IsQuiet old.volume = subst (λ (x : Parts g.row.K-Key.Denot g.row.D.Denot). IsQuiet x.volume) (sym c.self.view_is) c.requires.quiet in
    let clean : NoneDirty old.volume.shelf.frames = subst (λ (x : Parts g.row.K-Key.Denot g.row.D.Denot). NoneDirty x.volume.shelf.frames) (sym c.self.view_is) c.requires.clean in
    let closed : old.volume.log.turn ≡ Closed = subst (λ (x : Checkpoint). StandsIn x old.volume) running c.self.invariant.stands in
    let only = c.sync.ensures.only in
    rw (← c.self.view_is, c.fail.ensures.failed, c.fail.ensures.outcome) (λ l. sync_fails _ (c.a_class_is_lawful.ensures l) _ _ _
    (state old.volume.shelf.disk) (state u.shelf.disk) old c.stands.ensures works (running_is_calm old.checkpoint running) quiet clean closed u u
    (ap (λ (v : Volume g.row.D.Denot). v.log) only) (ap (λ (v : Volume g.row.D.Denot). v.shelf.counter) only) (ap (λ (v : Volume g.row.D.Denot). v.shelf.used) only)
    (ap (λ (v : Volume g.row.D.Denot). v.most) only) (c.in-Err.ensures.keeps l))
