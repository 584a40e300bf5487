use Rattle.std.proofs.Common.{◌≡◌, ◌+◌, suc, [], length, refl, arith}
use Rattle.gx_node.specs.Reading.{format_of, is_node}
use Rattle.gx_pool.specs.State.{kept}
use Rattle.gx_store.specs.Standing.{nodes_to, standing_node}
use Rattle.gx_store.specs.State.{Shelf}
use Rattle.gx_store.proofs.Asking.{moves_joined, taking_moves}
use Rattle.gx_store.proofs.Changing.{can_take, take_as_it_was, take_goes_on, take_holds, take_in_order, take_keeps_held, take_lowers_ready, take_nodes, there}
use Rattle.gx_store.proofs.Going.{since_joined}
use Rattle.gx_store.proofs.Listed.{nodes_long}
use Rattle.gx_store.proofs.pages_mut.PageStorePagesMut.take.Goals as goal

pub invariant_of-self : goal.invariant_of-self
invariant_of-self g c =
    let i = c.self.inside in
    let f = format_of g.K.KeyClass in
    let d = g.D.SectorDisk.state i.disk in
    let s : Shelf g.row.D.Denot = record { disk = i.disk; frames = i.pool.frames; used = i.used; counter = i.counter; pages = i.pages; batch = i.batch; has_room = i.has_room } in
    let held = rw (← c.self.view_is) at c.requires.held in
    let ready = rw (← c.self.view_is) at c.requires.ready in
    let k = there (kept i.pool.frames c.args.from) held.kept in
    let makes = c.create_as.ensures.created k.0 k.1 in
    let passing = (c.self.invariant.0.passed c.args.from k.0 k.1).1 in
    (take_in_order (is_node f) d s c.create_as.new.self.frames _ makes d.sectors (can_take s ready).more refl passing c.self.invariant.0, rw c.create_as.ensures.test c.self.invariant.1)

pub returns : goal.returns
returns g c =
    let i = c.self.inside in
    let f = format_of g.K.KeyClass in
    let d = g.D.SectorDisk.state i.disk in
    let t = c.create_as.new.self.frames in
    let s : Shelf g.row.D.Denot = record { disk = i.disk; frames = i.pool.frames; used = i.used; counter = i.counter; pages = i.pages; batch = i.batch; has_room = i.has_room } in
    let new : Shelf g.row.D.Denot = record s { frames = t; used = i.used + 1 } in
    let held = rw (← c.self.view_is) at c.requires.held in
    let can = can_take s (rw (← c.self.view_is) at c.requires.ready) in
    let k = there (kept i.pool.frames c.args.from) held.kept in
    let makes = c.create_as.ensures.created k.0 k.1 in
    let long = nodes_long (standing_node f i.pool.frames d.seen) i.used in
    let next : suc (length (nodes_to (standing_node f i.pool.frames d.seen) i.used)) ≡ i.used + 1 = omega (arith, long) in
    let on = take_goes_on (is_node f) d s t _ makes (c.self.invariant.0.none_above (i.used + 1) (omega arith)) c.self.invariant.0.passed in
    rw (← c.self.view_is, next) (record {
      taken = take_nodes f d.seen s t c.args.from k.0 makes k.1 held;
      next = (take_holds (is_node f) d s t _ makes, can.room);
      held = λ q is. take_keeps_held (is_node f) d s t _ makes q is;
      changing = λ q is. is;
      ready = take_lowers_ready s t _ makes can;
      steady = on.steady;
      since = λ was q ne is. since_joined (is_node f) (g.D.SectorDisk.state was.disk) d d was s new q is on (take_as_it_was (is_node f) d s t _ makes q ne);
      asked = λ was before is. moves_joined was s new [] before is (taking_moves s t _ makes);
      told = refl;
    })
