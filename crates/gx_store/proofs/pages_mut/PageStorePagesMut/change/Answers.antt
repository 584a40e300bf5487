use Rattle.std.proofs.Common.{[], refl, sym, ap, subst, ◌∙◌}
use Rattle.gx_node.specs.Reading.{format_of, is_node}
use Rattle.gx_page.specs.Contents.{Contents}
use Rattle.gx_pool.specs.Edits.{changed}
use Rattle.gx_node.specs.Trees.{Node}
use Rattle.gx_store.specs.State.{Shelf}
use Rattle.gx_store.proofs.Asking.{changing_moves, moves_joined}
use Rattle.gx_store.proofs.Changing.{change_as_it_was, change_goes_on, change_in_order, change_keeps_held, change_leaves_ready, change_nodes, change_others}
use Rattle.gx_store.proofs.Going.{since_joined}
use Rattle.gx_store.proofs.Shown.{held_node, lent}
use Rattle.gx_store.proofs.pages_mut.PageStorePagesMut.change.Goals as goal

pub apply-requires-clause-fits : goal.apply-requires-clause-fits
apply-requires-clause-fits g c =
    let i = c.self.inside in
    let f = format_of g.K.KeyClass in
    let s : Shelf g.row.D.Denot = record { disk = i.disk; frames = i.pool.frames; used = i.used; counter = i.counter; pages = i.pages; batch = i.batch; has_room = i.has_room } in
    let held = rw (← c.self.view_is) at c.requires.held in
    let fits = rw (← c.self.view_is) at c.requires.fits in
    let was = c.change_kept.result.now in
    let node = held_node f (g.D.SectorDisk.state i.disk).seen s c.args.page was held (lent i.pool.frames c.args.page was held.kept c.change_kept.ensures.page) in
    subst {A = Node g.row.K-Key.Denot} (g.E.Edit.fits c.args.edit i.pages) (sym node) fits

pub invariant_of-self : goal.invariant_of-self
invariant_of-self g c =
    let i = c.self.inside in
    let f = format_of g.K.KeyClass in
    let d = g.D.SectorDisk.state i.disk in
    let s : Shelf g.row.D.Denot = record { disk = i.disk; frames = i.pool.frames; used = i.used; counter = i.counter; pages = i.pages; batch = i.batch; has_room = i.has_room } in
    let held = rw (← c.self.view_is) at c.requires.held in
    let was = lent i.pool.frames c.args.page c.change_kept.result.now held.kept c.change_kept.ensures.page in
    let number = c.apply.ensures.number ∙ ap (λ (p : Contents). p.number) was.same ∙ (c.self.invariant.0.passed c.args.page was.k was.is).0 in
    (change_in_order (is_node f) d s c.args.page c.apply.new.page d.sectors c.change_kept.ensures.sound held.to number c.apply.ensures.node c.self.invariant.0, c.self.invariant.1)

pub returns : goal.returns
returns g c =
    let i = c.self.inside in
    let f = format_of g.K.KeyClass in
    let d = g.D.SectorDisk.state i.disk in
    let page = c.args.page in
    let w = c.apply.new.page in
    let sound = c.change_kept.ensures.sound in
    let s : Shelf g.row.D.Denot = record { disk = i.disk; frames = i.pool.frames; used = i.used; counter = i.counter; pages = i.pages; batch = i.batch; has_room = i.has_room } in
    let new : Shelf g.row.D.Denot = record s { frames = changed i.pool.frames page i.batch w } in
    let held = rw (← c.self.view_is) at c.requires.held in
    let was = c.change_kept.result.now in
    let before = held_node f d.seen s page was held (lent i.pool.frames page was held.kept c.change_kept.ensures.page) in
    let on = change_goes_on (is_node f) d s page w sound held.kept in
    rw (← c.self.view_is) (record {
      edited = rw (← before, ← change_nodes f d.seen s page w sound held) c.apply.ensures.edits;
      others = change_others f d.seen s page w sound held;
      held = λ q is. change_keeps_held s page w q sound held.kept is;
      changing = λ q is. is;
      ready = change_leaves_ready s page w sound held;
      steady = on.steady;
      since = λ was q ne is. since_joined (is_node f) (g.D.SectorDisk.state was.disk) d d was s new q is on (change_as_it_was d i.pool.frames page q i.batch w sound ne);
      asked = λ was before is. moves_joined was s new [] before is (changing_moves s page w sound held.kept);
      told = refl;
    })
