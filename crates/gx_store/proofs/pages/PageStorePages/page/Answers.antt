use Rattle.std.proofs.Common.{ap, ◌∙◌}
use Rattle.gx_node.specs.Reading.{format_of}
use Rattle.gx_page.specs.Contents.{Contents}
use Rattle.gx_store.specs.State.{Shelf}
use Rattle.gx_store.proofs.Shown.{held_node, lent}
use Rattle.gx_store.proofs.pages.PageStorePages.page.Goals as goal

pub returns-clause-number : goal.returns-clause-number
returns-clause-number g c =
    let held = rw (← c.self.view_is) at c.requires in
    let is = lent c.self.inside.pool.frames c.args.page c.page.result.now held.kept c.page.ensures in
    ap (λ (p : Contents). p.number) is.same ∙ (c.self.invariant.0.passed c.args.page is.k is.is).0

pub returns-clause-node : goal.returns-clause-node
returns-clause-node g c =
    let f = format_of g.K.KeyClass in
    let i = c.self.inside in
    let s : Shelf g.row.D.Denot = record { disk = i.disk; frames = i.pool.frames; used = i.used; counter = i.counter; pages = i.pages; batch = i.batch; has_room = i.has_room } in
    let held = rw (← c.self.view_is) at c.requires in
    rw (← c.self.view_is) (held_node f (g.D.SectorDisk.state i.disk).seen s c.args.page c.page.result.now held (lent i.pool.frames c.args.page c.page.result.now held.kept c.page.ensures))
