use Rattle.std.proofs.Common.{ℕ, subst, sym}
use Rattle.gx_node.specs.Reading.{format_of, is_node}
use Rattle.gx_store.specs.State.{IsInOrder, Shelf}
use Rattle.gx_store.proofs.drain.Draining.{drained_since, drained_stays}
use Rattle.gx_store.proofs.store.PageStore.drain.Goals as goal

pub invariant_of-self : goal.invariant_of-self
invariant_of-self g c =
    let i = c.self.inside in
    let S : ℕ → Type 0 = λ n. IsInOrder (is_node (format_of g.K.KeyClass) i.pages) n i.pool.frames i.used i.pages in
    (subst S (sym c.drain.ensures.same.sectors) c.self.invariant.0, c.self.invariant.1)

pub returns-clause-since : goal.returns-clause-since
returns-clause-since g c =
    let i = c.self.inside in
    let state = g.D.SectorDisk.state in
    let s : Shelf g.row.D.Denot = record { disk = i.disk; frames = i.pool.frames; used = i.used; counter = i.counter; pages = i.pages; batch = i.batch; has_room = i.has_room } in
    rw (← c.self.view_is) (drained_since (state i.disk) (state c.drain.new.self) c.drain.ensures.same (is_node (format_of g.K.KeyClass)) s c.drain.new.self)

pub returns-clause-stays : goal.returns-clause-stays
returns-clause-stays g c =
    let i = c.self.inside in
    let state = g.D.SectorDisk.state in
    let s : Shelf g.row.D.Denot = record { disk = i.disk; frames = i.pool.frames; used = i.used; counter = i.counter; pages = i.pages; batch = i.batch; has_room = i.has_room } in
    rw (← c.self.view_is) (drained_stays (state i.disk) (state c.drain.new.self) c.drain.ensures.same (format_of g.K.KeyClass) s c.drain.new.self)
