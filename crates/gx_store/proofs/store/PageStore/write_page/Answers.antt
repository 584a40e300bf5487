use Rattle.std.proofs.lemmas.Grind.{common_steps}
use Rattle.std.proofs.Common.{ℕ, ◌≡◌, ◌∙◌, ◌⊎◌, ◌<◌, Bool, false, true, inl, inr, sym, ap, subst, arith}
use Rattle.std.proofs.lemmas.Option.{none-some}
use Rattle.gx_node.specs.Reading.{format_of, is_node}
use Rattle.gx_pool.specs.Area.{IsPage}
use Rattle.gx_pool.specs.Laws.{IsPassed}
use Rattle.gx_pool.specs.Marks.{is_gated}
use Rattle.gx_pool.specs.State.{stamp_of}
use Rattle.gx_pool.specs.Readable.{IsReadable}
use Rattle.gx_durable.proofs.Paging.{page_runs}
use Rattle.gx_store.specs.Faults.{is_taken}
use Rattle.gx_store.proofs.calls.Calling.{none_gated, none_there, write_in_order}
use Rattle.gx_store.proofs.store.PageStore.write_page.Goals as goal
use Rattle.gx_store.proofs.store.PageStore.write_page.Goals.{then-page-eq0-via-then-page-eq0, then-page-eq0-via-else-page-eq0+then-page-self}

pub returns-then-page-eq0-clause-answer : goal.returns-then-page-eq0-clause-answer
returns-then-page-eq0-clause-answer g c =
    let i = c.self.inside in
    let out : (c.args.page ≡ 0) ⊎ (i.used < c.args.page) = elim c.then-page-eq0.branch [
      | then-page-eq0-via-then-page-eq0 w ↦ inl w.if-page-eq0.true
      | then-page-eq0-via-else-page-eq0+then-page-self w ↦ inr w.if-page-self.true
    ] in
    let none = none_there (is_node (format_of g.K.KeyClass) i.pages) (g.D.SectorDisk.state i.disk).sectors i.used i.pages i.pool.frames c.args.page c.dirty_frames.ensures.sound c.self.invariant.0 out in
    rw (← c.self.view_is) (none_gated i.pool.frames c.args.page none)

pub returns-then-page-eq0-clause-written : goal.returns-then-page-eq0-clause-written
returns-then-page-eq0-clause-written g c =
    let i = c.self.inside in
    let out : (c.args.page ≡ 0) ⊎ (i.used < c.args.page) = elim c.then-page-eq0.branch [
      | then-page-eq0-via-then-page-eq0 w ↦ inl w.if-page-eq0.true
      | then-page-eq0-via-else-page-eq0+then-page-self w ↦ inr w.if-page-self.true
    ] in
    let none = none_there (is_node (format_of g.K.KeyClass) i.pages) (g.D.SectorDisk.state i.disk).sectors i.used i.pages i.pool.frames c.args.page c.dirty_frames.ensures.sound c.self.invariant.0 out in
    rw (← c.self.view_is) (λ k is gated. absurd (none-some k (sym none ∙ is)))

pub returns-then-page-eq0-clause-runs : goal.returns-then-page-eq0-clause-runs
returns-then-page-eq0-clause-runs g c =
    let i = c.self.inside in
    let out : (c.args.page ≡ 0) ⊎ (i.used < c.args.page) = elim c.then-page-eq0.branch [
      | then-page-eq0-via-then-page-eq0 w ↦ inl w.if-page-eq0.true
      | then-page-eq0-via-else-page-eq0+then-page-self w ↦ inr w.if-page-self.true
    ] in
    let none = none_there (is_node (format_of g.K.KeyClass) i.pages) (g.D.SectorDisk.state i.disk).sectors i.used i.pages i.pool.frames c.args.page c.dirty_frames.ensures.sound c.self.invariant.0 out in
    rw (← c.self.view_is) (λ gated. absurd (let never : false ≡ true = none_gated i.pool.frames c.args.page none ∙ gated in cc))

pub invariant_of-self : goal.invariant_of-self
invariant_of-self g c =
    let i = c.self.inside in
    let P : ℕ → Type 0 = λ n. IsPassed (is_node (format_of g.K.KeyClass) n) i.pool.frames → IsPassed (is_node (format_of g.K.KeyClass) n) c.write_page.new.self.frames in (
      write_in_order (is_node (format_of g.K.KeyClass) i.pages) (g.D.SectorDisk.state i.disk).sectors _ i.used i.pages c.args.page _ _ i.pool.frames c.write_page.new.self.frames
          c.write_page.ensures.device.0 c.self.invariant.0 (subst P c.self.invariant.1 c.write_page.ensures.passing) c.write_page.ensures.at_most,
      rw c.write_page.ensures.test c.self.invariant.1,
    )

pub returns-clause-written : goal.returns-clause-written
returns-clause-written g c = rw (← c.self.view_is) c.write_page.ensures.written

pub returns-clause-shown : goal.returns-clause-shown
returns-clause-shown g c = rw (← c.self.view_is) c.write_page.ensures.shown

pub returns-clause-readable : goal.returns-clause-readable
returns-clause-readable g c =
    let i = c.self.inside in
    let d = g.D.SectorDisk.state i.disk in
    let e = g.D.SectorDisk.state c.write_page.new.disk in
    let f = format_of g.K.KeyClass in
    let R : ℕ → Type 0 = λ n. (used : ℕ → Bool) → d.honest ≡ true → IsReadable (is_node f n) used i.pool.frames d.seen → IsReadable (is_node f n) used c.write_page.new.self.frames e.seen in
    let keeps = subst R c.self.invariant.1 c.write_page.ensures.readable in
    rw (← c.self.view_is) (keeps (is_taken i.used))

pub returns-clause-runs : goal.returns-clause-runs
returns-clause-runs g c =
    let i = c.self.inside in
    let order = c.self.invariant.0 in
    let low = c.if-page-eq0.false in
    let high = c.if-page-self.false in
    let here : IsPage (g.D.SectorDisk.state i.disk).sectors c.args.page =
    record { from = omega (arith, low); to = omega (arith, high, order.taken, order.few); inside = omega (arith, high, order.taken, order.inside) } in
    rw (← c.self.view_is) (λ gated l. page_runs (g.M.Meaning.known l) g.M.Spelled.reading i.pool.frames _ (g.D.SectorDisk.state i.disk) _ c.args.page
    c.write_page.ensures.device.0 c.write_page.ensures.at_most.touches c.write_page.ensures.at_most.time c.write_page.ensures.area
    c.write_page.ensures.at_most.gated c.write_page.ensures.at_most.dirty here c.write_page.ensures.at_most.contents
    (λ none. ap (λ x. (g.D.SectorDisk.state x).seen) (c.write_page.ensures.idle (ap (λ o. is_gated i.pool.frames.gated (stamp_of o)) none)).2))

pub returns-clause-at_most : goal.returns-clause-at_most
returns-clause-at_most g c = grind (arith, common_steps)
