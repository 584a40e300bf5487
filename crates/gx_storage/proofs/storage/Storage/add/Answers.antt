use Rattle.std.proofs.Common.{◌≡◌, sym, ap, refl, ◌∙◌, Err, Ok, rules}
use Rattle.gx_node.specs.Reading.{format_of, is_node}
use Rattle.gx_store.specs.Standing.{store_of}
use Rattle.gx_store.specs.State.{Shelf}
use Rattle.gx_tree.specs.Calls.{TellsAdd}
use Rattle.gx_storage.specs.Changes.{has_room}
use Rattle.gx_storage.specs.Imaged.{is_imaged}
use Rattle.gx_storage.specs.Small.{add_room}
use Rattle.gx_storage.specs.State.{Volume, volume}
use Rattle.gx_storage.proofs.SmallRecords.{logged_added}
use Rattle.gx_storage.proofs.Recording.{nodes_of}
use Rattle.gx_storage.proofs.Writing.{added_since, added_stamped, begun_is, takes_then, on_err, over_begun, stepped, steady_begun, unlogged, unstepped}
use Rattle.gx_storage.proofs.storage.Storage.add.Goals as goal

pub returns-in_err-add_step-clause-unlogged : goal.returns-in_err-add_step-clause-unlogged
returns-in_err-add_step-clause-unlogged g c =
    let i = c.self.inside in
    let f = format_of g.K.KeyClass in
    let state = g.D.SectorDisk.state in
    let v : Volume g.row.D.Denot = volume i.journal i.store i.most in
    let u = c.begin_event.new.store in
    let t = c.add_step.new.pages in
    let size = add_room (is_imaged i.journal.imaged c.args.page) g.K.KeyClass.KEY in
    let is = begun_is v u size _ c.begin_event.ensures c.add_size-size.ensures in
    let since = unstepped (is_node f) state v size t u is c.in_err-add_step.ensures.writes.kept in
    rw (← c.self.view_is) (on_err _ _ (unlogged _ _ f (is_node f) state v size t since
    (λ steady. c.in_err-add_step.ensures.tells.refused (steady_begun (is_node f) state v size t u is steady) ∙ ap (λ (x : Shelf g.row.D.Denot). store_of f (state x.disk).seen x) is)))

pub add-requires : goal.add-requires
add-requires g c =
    let i = c.self.inside in
    let f = format_of g.K.KeyClass in
    let state = g.D.SectorDisk.state in
    let v : Volume g.row.D.Denot = volume i.journal i.store i.most in
    let u = c.begin_event.new.store in
    let t = c.add_step.new.pages in
    let size = add_room (is_imaged i.journal.imaged c.args.page) g.K.KeyClass.KEY in
    let is = begun_is v u size _ c.begin_event.ensures c.add_size-size.ensures in
    let did = stepped (is_node f) state v size t u c.args.page is c.in_ok-add_step.ensures.writes.since in
    let still = rw (← c.self.view_is) at c.requires.still in
    record { takes = takes_then (is_node f) state v size t (sym did.goes_on.has_room) c.in_ok-add_step.ensures.held.1 still; held = c.in_ok-add_step.ensures.held.0 }

pub returns-clause-logged : goal.returns-clause-logged
returns-clause-logged g c =
    let i = c.self.inside in
    let f = format_of g.K.KeyClass in
    let state = g.D.SectorDisk.state in
    let v : Volume g.row.D.Denot = volume i.journal i.store i.most in
    let u = c.begin_event.new.store in
    let t = c.add_step.new.pages in
    let size = add_room (is_imaged i.journal.imaged c.args.page) g.K.KeyClass.KEY in
    let is = begun_is v u size _ c.begin_event.ensures c.add_size-size.ensures in
    let did = stepped (is_node f) state v size t u c.args.page is c.in_ok-add_step.ensures.writes.since in
    rw (← c.self.view_is) (logged_added _ _ f (is_node f) state v size t _ g.K.KeyClass.spelling c.leaves.ensures.hold (nodes_of f _ _ c.in_order.ensures) (nodes_of f _ _ c.in_order-2.ensures)
    c.args.page c.add.new.self did c.add.ensures.given c.args.transaction i.most c.args.entry.now
    (λ steady. added_since f state v size u i.most _ c.args.page c.args.entry.now is (c.in_ok-add_step.ensures.tells.added (steady_begun (is_node f) state v size t u is steady)))
    _ refl c.add.ensures.last)

pub returns-clause-stamped : goal.returns-clause-stamped
returns-clause-stamped g c =
    let i = c.self.inside in
    let f = format_of g.K.KeyClass in
    let state = g.D.SectorDisk.state in
    let v : Volume g.row.D.Denot = volume i.journal i.store i.most in
    let u = c.begin_event.new.store in
    let t = c.add_step.new.pages in
    let size = add_room (is_imaged i.journal.imaged c.args.page) g.K.KeyClass.KEY in
    let is = begun_is v u size _ c.begin_event.ensures c.add_size-size.ensures in
    let did = stepped (is_node f) state v size t u c.args.page is c.in_ok-add_step.ensures.writes.since in
    rw (← c.self.view_is) (λ steady. added_stamped f (is_node f) state v size t c.args.page i.most c.args.entry.now did c.in_ok-add_step.ensures.held.0 steady
    (added_since f state v size u i.most _ c.args.page c.args.entry.now is (c.in_ok-add_step.ensures.tells.added (steady_begun (is_node f) state v size t u is steady))))

pub returns-in_err-add_step-clause-tells : goal.returns-in_err-add_step-clause-tells
returns-in_err-add_step-clause-tells g c =
    let i = c.self.inside in
    let f = format_of g.K.KeyClass in
    let state = g.D.SectorDisk.state in
    let failed : c.from_residual.result ≡ Err c.in_err-add_step.field-0.0 = search rules in
    rw (← c.self.view_is, failed)
    (over_begun f state (TellsAdd i.most c.args.page c.args.entry.now (Err c.in_err-add_step.field-0.0)) i.store c.begin_event.new.store c.add_step.new.pages i.journal.log.used (has_room i.journal.log c.add_size-size.result)
    c.begin_event.ensures c.in_err-add_step.ensures.tells)

pub returns-clause-tells : goal.returns-clause-tells
returns-clause-tells g c =
    let i = c.self.inside in
    let f = format_of g.K.KeyClass in
    let state = g.D.SectorDisk.state in
    rw (← c.self.view_is)
    (over_begun f state (TellsAdd i.most c.args.page c.args.entry.now (Ok tt)) i.store c.begin_event.new.store c.add_step.new.pages i.journal.log.used (has_room i.journal.log c.add_size-size.result)
    c.begin_event.ensures c.in_ok-add_step.ensures.tells)
