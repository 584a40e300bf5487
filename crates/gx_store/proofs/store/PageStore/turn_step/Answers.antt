use Rattle.std.proofs.Common.{ℕ, ap, refl, subst, sym, Ok}
use Rattle.std.proofs.lemmas.Result.{err_from_is_err_and}
use Rattle.gx_node.specs.Reading.{format_of, is_node}
use Rattle.gx_pool.specs.State.{State}
use Rattle.gx_durable.specs.Turns.{told_result}
use Rattle.gx_durable.proofs.Apart.{turn_apart}
use Rattle.gx_durable.proofs.Opening.{first_turn}
use Rattle.gx_durable.proofs.TurnRunning.{turn_runs, told_call}
use Rattle.gx_store.specs.State.{IsInOrder, Shelf}
use Rattle.gx_store.proofs.calls.Calling.{turn_in_order}
use Rattle.gx_store.proofs.store.PageStore.turn_step.Goals as goal

pub invariant_of-self : goal.invariant_of-self
invariant_of-self g c =
    let i = c.self.inside in
    let S : ℕ → Type 0 = λ m. IsInOrder (is_node (format_of g.K.KeyClass) i.pages) m i.pool.frames i.used i.pages in
    (subst S (sym c.in_err-call.ensures.counts.sectors) c.self.invariant.0, c.self.invariant.1)

pub returns-in_err-call-clause-runs : goal.returns-in_err-call-clause-runs
returns-in_err-call-clause-runs g c =
    let i = c.self.inside in
    let p = err_from_is_err_and c.from_residual.result c.from_residual.ensures.1 in
    let clean = rw (← c.self.view_is) at c.requires.clean in
    rw (← c.self.view_is, p.1, p.2) (λ l. turn_runs (g.M.Meaning.known l) g.M.Spelled.reading c.args.log.now c.turn_step.new.self i.pool.frames i.pool.frames
    (g.D.SectorDisk.state i.disk) (g.D.SectorDisk.state c.turn_step.new.disk) _ refl
    c.in_err-call.ensures.counts c.requires.idle clean c.in_err-call.ensures.turns c.in_err-call.ensures.call c.in_err-call.ensures.keeps)

pub returns-in_err-call-clause-found : goal.returns-in_err-call-clause-found
returns-in_err-call-clause-found g c =
    let p = err_from_is_err_and c.from_residual.result c.from_residual.ensures.1 in
    rw (← c.self.view_is, p.1, p.2) (λ l. first_turn (g.M.Meaning.known l) g.M.Spelled.reading c.args.log.now c.turn_step.new.self
    (g.D.SectorDisk.state c.self.inside.disk) (g.D.SectorDisk.state c.turn_step.new.disk) _
    c.in_err-call.ensures.counts c.in_err-call.ensures.turns c.in_err-call.ensures.call c.in_err-call.ensures.may_turn)

pub returns-in_err-call-clause-pages : goal.returns-in_err-call-clause-pages
returns-in_err-call-clause-pages g c =
    rw (← c.self.view_is) (λ honest on. turn_apart (g.D.SectorDisk.state c.self.inside.disk) (g.D.SectorDisk.state c.turn_step.new.disk) _ (c.in_err-call.ensures.keeps honest on).touches)

pub invariant_of-self-2 : goal.invariant_of-self-2
invariant_of-self-2 g c =
    let i = c.self.inside in
    let n = (g.D.SectorDisk.state c.turn_step.new.disk).sectors in
    let tells = told_call _ i.pool.frames _ c.tell_turned.ensures.frames in
    let F : State → Type 0 = λ x. IsInOrder (is_node (format_of g.K.KeyClass) i.pages) n x i.used i.pages in
    let S : ℕ → Type 0 = λ m. IsInOrder (is_node (format_of g.K.KeyClass) i.pages) m (told_result (Ok c.in_ok-call.call) i.pool.frames) i.used i.pages in
    let order = turn_in_order (is_node (format_of g.K.KeyClass) i.pages) (g.D.SectorDisk.state i.disk).sectors i.used i.pages i.pool.frames c.self.invariant.0 (Ok c.in_ok-call.call) in
    (subst F (sym tells) (subst S (sym c.in_ok-call.ensures.counts.sectors) order), rw c.tell_turned.ensures.test c.self.invariant.1)

pub returns-clause-only : goal.returns-clause-only
returns-clause-only g c =
    let i = c.self.inside in
    rw (← c.self.view_is) (ap (λ (x : State). (let s : Shelf g.row.D.Denot = record { disk = c.turn_step.new.disk; frames = x; used = i.used; counter = i.counter; pages = i.pages; batch = i.batch; has_room = i.has_room } in s))
    (told_call _ i.pool.frames _ c.tell_turned.ensures.frames))

pub returns-clause-runs : goal.returns-clause-runs
returns-clause-runs g c =
    let i = c.self.inside in
    let clean = rw (← c.self.view_is) at c.requires.clean in
    rw (← c.self.view_is) (λ l. turn_runs (g.M.Meaning.known l) g.M.Spelled.reading c.args.log.now c.turn_step.new.self i.pool.frames _
    (g.D.SectorDisk.state i.disk) (g.D.SectorDisk.state c.turn_step.new.disk) _ (told_call _ i.pool.frames _ c.tell_turned.ensures.frames)
    c.in_ok-call.ensures.counts c.requires.idle clean c.in_ok-call.ensures.turns c.in_ok-call.ensures.call c.in_ok-call.ensures.keeps)

pub returns-clause-found : goal.returns-clause-found
returns-clause-found g c =
    rw (← c.self.view_is) (λ l. first_turn (g.M.Meaning.known l) g.M.Spelled.reading c.args.log.now c.turn_step.new.self
    (g.D.SectorDisk.state c.self.inside.disk) (g.D.SectorDisk.state c.turn_step.new.disk) _
    c.in_ok-call.ensures.counts c.in_ok-call.ensures.turns c.in_ok-call.ensures.call c.in_ok-call.ensures.may_turn)

pub returns-clause-pages : goal.returns-clause-pages
returns-clause-pages g c =
    rw (← c.self.view_is) (λ honest on. turn_apart (g.D.SectorDisk.state c.self.inside.disk) (g.D.SectorDisk.state c.turn_step.new.disk) _ (c.in_ok-call.ensures.keeps honest on).touches)
