use Rattle.std.proofs.Common.{ℕ, ap, refl, subst, sym, Ok}
use Rattle.std.proofs.lemmas.Result.{err_from_is_err_and}
use Rattle.gx_node.specs.Reading.{format_of, is_node}
use Rattle.gx_pool.specs.State.{State}
use Rattle.gx_durable.specs.Steps.{told_frames}
use Rattle.gx_durable.proofs.Apart.{batches_apart}
use Rattle.gx_durable.proofs.Running.{step_runs}
use Rattle.gx_durable.proofs.Stamping.{told_at}
use Rattle.gx_store.specs.State.{IsInOrder, Shelf}
use Rattle.gx_store.proofs.calls.Calling.{step_in_order}
use Rattle.gx_store.proofs.store.PageStore.log_step.Goals as goal

pub invariant_of-self : goal.invariant_of-self
invariant_of-self g c =
    let i = c.self.inside in
    let S : ℕ → Type 0 = λ m. IsInOrder (is_node (format_of g.K.KeyClass) i.pages) m i.pool.frames i.used i.pages in
    (subst S (sym c.in_err-stage.ensures.counts.sectors) c.self.invariant.0, c.self.invariant.1)

pub returns-in_err-stage-clause-runs : goal.returns-in_err-stage-clause-runs
returns-in_err-stage-clause-runs g c =
    let i = c.self.inside in
    let p = err_from_is_err_and c.from_residual.result c.from_residual.ensures.1 in
    rw (← c.self.view_is, p.1, p.2) (λ l. step_runs (g.M.Meaning.known l) g.M.Spelled.reading c.args.log.now c.log_step.new.self i.pool.frames i.pool.frames
    (g.D.SectorDisk.state i.disk) (g.D.SectorDisk.state c.log_step.new.disk) _ _ refl
    c.in_err-stage.ensures.counts c.in_err-stage.ensures.goes c.in_err-stage.ensures.call (λ is. ap g.D.SectorDisk.state (c.in_err-stage.ensures.idle is)) c.in_err-stage.ensures.keeps)

pub returns-in_err-stage-clause-pages : goal.returns-in_err-stage-clause-pages
returns-in_err-stage-clause-pages g c =
    rw (← c.self.view_is) (λ honest on. batches_apart (g.D.SectorDisk.state c.self.inside.disk) (g.D.SectorDisk.state c.log_step.new.disk) (c.in_err-stage.ensures.keeps honest on).touches)

pub invariant_of-self-2 : goal.invariant_of-self-2
invariant_of-self-2 g c =
    let i = c.self.inside in
    let n = (g.D.SectorDisk.state c.log_step.new.disk).sectors in
    let tells = told_at _ c.used.result c.log_step.new.self i.pool.frames _ c.tell_pool.ensures.frames c.used.ensures.used in
    let F : State → Type 0 = λ x. IsInOrder (is_node (format_of g.K.KeyClass) i.pages) n x i.used i.pages in
    let S : ℕ → Type 0 = λ m. IsInOrder (is_node (format_of g.K.KeyClass) i.pages) m (told_frames (Ok c.in_ok-stage.stage) c.log_step.new.self i.pool.frames) i.used i.pages in
    let order = step_in_order (is_node (format_of g.K.KeyClass) i.pages) (g.D.SectorDisk.state i.disk).sectors i.used i.pages i.pool.frames c.self.invariant.0 (Ok c.in_ok-stage.stage) c.log_step.new.self in
    (subst F (sym tells) (subst S (sym c.in_ok-stage.ensures.counts.sectors) order), rw c.tell_pool.ensures.test c.self.invariant.1)

pub returns-clause-only : goal.returns-clause-only
returns-clause-only g c =
    let i = c.self.inside in
    let tells = told_at _ c.used.result c.log_step.new.self i.pool.frames _ c.tell_pool.ensures.frames c.used.ensures.used in
    rw (← c.self.view_is) (ap (λ (x : State). (let s : Shelf g.row.D.Denot = record { disk = c.log_step.new.disk; frames = x; used = i.used; counter = i.counter; pages = i.pages; batch = i.batch; has_room = i.has_room } in s)) tells)

pub returns-clause-runs : goal.returns-clause-runs
returns-clause-runs g c =
    let i = c.self.inside in
    rw (← c.self.view_is) (λ l. step_runs (g.M.Meaning.known l) g.M.Spelled.reading c.args.log.now c.log_step.new.self i.pool.frames _
    (g.D.SectorDisk.state i.disk) (g.D.SectorDisk.state c.log_step.new.disk) _ _
    (told_at _ c.used.result c.log_step.new.self i.pool.frames _ c.tell_pool.ensures.frames c.used.ensures.used)
    c.in_ok-stage.ensures.counts c.in_ok-stage.ensures.goes c.in_ok-stage.ensures.call (λ is. ap g.D.SectorDisk.state (c.in_ok-stage.ensures.idle is)) c.in_ok-stage.ensures.keeps)

pub returns-clause-pages : goal.returns-clause-pages
returns-clause-pages g c =
    rw (← c.self.view_is) (λ honest on. batches_apart (g.D.SectorDisk.state c.self.inside.disk) (g.D.SectorDisk.state c.log_step.new.disk) (c.in_ok-stage.ensures.keeps honest on).touches)
