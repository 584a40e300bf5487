use Rattle.std.proofs.Common.{arith}
use Rattle.gx_node.specs.Reading.{format_of}
use Rattle.gx_store.specs.Standing.{standing_node}
use Rattle.gx_store.specs.State.{Shelf}
use Rattle.gx_store.proofs.Changing.{are_wanted, is_ready}
use Rattle.gx_store.proofs.Listed.{nodes_long}
use Rattle.gx_store.proofs.pages_mut.PageStorePagesMut.prepare.Goals as goal

pub returns-then-clean_frames-taken-clause-why : goal.returns-then-clean_frames-taken-clause-why
returns-then-clean_frames-taken-clause-why g c =
    let i = c.self.inside in
    let d = g.D.SectorDisk.state i.disk in
    let s : Shelf g.row.D.Denot = record { disk = i.disk; frames = i.pool.frames; used = i.used; counter = i.counter; pages = i.pages; batch = i.batch; has_room = i.has_room } in
    let room = rw (← c.self.view_is) at c.requires.room in
    let long = nodes_long (standing_node (format_of g.K.KeyClass) i.pool.frames d.seen) i.used in
    rw (← c.self.view_is) (are_wanted s c.args.taken c.requires.few (omega (arith, c.clean_frames.ensures, c.if-clean_frames-taken.true)) (λ some. let fits = room some in omega (arith, fits, long)))

pub returns-clause-ready : goal.returns-clause-ready
returns-clause-ready g c =
    let i = c.self.inside in
    let d = g.D.SectorDisk.state i.disk in
    let s : Shelf g.row.D.Denot = record { disk = i.disk; frames = i.pool.frames; used = i.used; counter = i.counter; pages = i.pages; batch = i.batch; has_room = i.has_room } in
    let room = rw (← c.self.view_is) at c.requires.room in
    let long = nodes_long (standing_node (format_of g.K.KeyClass) i.pool.frames d.seen) i.used in
    rw (← c.self.view_is) (is_ready s c.args.taken c.if-not-self.false (omega (arith, c.clean_frames.ensures, c.if-clean_frames-taken.false)) (λ some. let fits = room some in omega (arith, fits, long)))
