use Rattle.std.proofs.Common.{ℕ, [], ◌∷◌, subst}
use Rattle.gx_node.specs.Reading.{format_of, is_node}
use Rattle.gx_pool.specs.Bringing.{BringsAll}
use Rattle.gx_pool.specs.State.{holding}
use Rattle.gx_store.specs.State.{Shelf}
use Rattle.gx_store.specs.Faults.{told_of}
use Rattle.gx_node.specs.Owner.{Brings}
use Rattle.gx_store.proofs.Asking.{bringing_moves, moves_joined}
use Rattle.gx_store.proofs.pages.Bringing.{brought_in_order, brought_nodes, fetched, fits_device, on_ok}
use Rattle.gx_store.proofs.Going.{since_joined, why_later}
use Rattle.gx_store.proofs.Listed.{taken_pages}
use Rattle.gx_store.proofs.pages.PageStorePages.bring.Goals as goal

pub bring-requires-clause-pages : goal.bring-requires-clause-pages
bring-requires-clause-pages g c =
    let i = c.self.inside in
    let f = format_of g.K.KeyClass in
    let d = g.D.SectorDisk.state i.disk in
    let s : Shelf g.row.D.Denot = record { disk = i.disk; frames = i.pool.frames; used = i.used; counter = i.counter; pages = i.pages; batch = i.batch; has_room = i.has_room } in
    let used = rw (← c.self.view_is) at c.requires.used in
    fits_device (is_node f) d d s i.disk i.pool.frames c.args.pages.now (taken_pages f d.seen s c.args.pages.now used) c.self.invariant.0

pub invariant_of-self : goal.invariant_of-self
invariant_of-self g c =
    let i = c.self.inside in
    let f = format_of g.K.KeyClass in
    let d = g.D.SectorDisk.state i.disk in
    let e = g.D.SectorDisk.state c.bring.new.disk in
    let t = c.bring.new.self.frames in
    let pages = c.args.pages.now in
    let s : Shelf g.row.D.Denot = record { disk = i.disk; frames = i.pool.frames; used = i.used; counter = i.counter; pages = i.pages; batch = i.batch; has_room = i.has_room } in
    let taken = taken_pages f d.seen s pages (rw (← c.self.view_is) at c.requires.used) in
    let brought = subst {A = ℕ} (λ n. BringsAll (is_node f n) d e (holding i.pool.frames pages) t pages c.bring.result) c.self.invariant.1 c.bring.ensures.brought in
    (brought_in_order (is_node f) d e s c.bring.new.disk t pages c.bring.result taken brought c.self.invariant.0, rw c.bring.ensures.test c.self.invariant.1)

pub returns : goal.returns
returns g c =
    let i = c.self.inside in
    let f = format_of g.K.KeyClass in
    let d = g.D.SectorDisk.state i.disk in
    let e = g.D.SectorDisk.state c.bring.new.disk in
    let t = c.bring.new.self.frames in
    let pages = c.args.pages.now in
    let s : Shelf g.row.D.Denot = record { disk = i.disk; frames = i.pool.frames; used = i.used; counter = i.counter; pages = i.pages; batch = i.batch; has_room = i.has_room } in
    let new : Shelf g.row.D.Denot = record s { disk = c.bring.new.disk; frames = t } in
    let taken = taken_pages f d.seen s pages (rw (← c.self.view_is) at c.requires.used) in
    let all = fetched (is_node f) d e s c.bring.new.disk t pages c.bring.result i.pool.test.pages c.self.invariant.1 taken c.bring.ensures.brought c.self.invariant.0 in
    let brought = subst {A = ℕ} (λ n. BringsAll (is_node f n) d e (holding i.pool.frames pages) t pages c.bring.result) c.self.invariant.1 c.bring.ensures.brought in
    rw (← c.self.view_is, c.store_result.ensures) (record {
      held = all.held;
      stays = brought_nodes f (is_node f) d e s c.bring.new.disk t pages brought.brings brought.only_read;
      steady = all.goes_on.steady;
      since = λ was q before. since_joined (is_node f) (g.D.SectorDisk.state was.disk) d e was s new q before all.goes_on (all.same q);
      asked = λ was before is. moves_joined was s new (Brings pages ∷ []) before is (bringing_moves (is_node f i.pages) d e s c.bring.new.disk t pages c.bring.result brought);
      why = all.why;
      later = on_ok (told_of c.bring.result) _ (λ later fault is. why_later (is_node f) d e (g.D.SectorDisk.state later.disk) s new later fault all.goes_on is);
      told = all.told;
    })
