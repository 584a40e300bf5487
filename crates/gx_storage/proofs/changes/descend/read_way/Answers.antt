use Rattle.std.proofs.Common.{[], sym, subst, true}
use Rattle.gx_node.specs.Reading.{format_of, is_node}
use Rattle.gx_store.specs.Faults as faults
use Rattle.gx_store.specs.Since.{IsSince}
use Rattle.gx_store.specs.State.{Shelf}
use Rattle.gx_store.specs.declared.fault.StoreFault.{StoreFault}
use Rattle.gx_storage.specs.Changes.{has_room}
use Rattle.gx_storage.specs.State.{Volume}
use Rattle.gx_storage.proofs.OnlyReads.{since_begun}
use Rattle.gx_storage.proofs.Sweeping.{begun_anew, why_anew, whys}
use Rattle.gx_storage.proofs.changes.descend.read_way.Goals as goal

pub returns-clause-since : goal.returns-clause-since
returns-clause-since g c = λ q.
    let s : Shelf g.row.D.Denot = c.args.store.now in
    let log = c.args.journal.now.log in
    let state = g.D.SectorDisk.state in
    let v : Volume g.row.D.Denot = record { log = log; shelf = s; most = 0; imaged = [] } in
    let passes = is_node (format_of g.K.KeyClass) in
    let read : Shelf g.row.D.Denot = c.way_step-way.new.pages in
    let room = has_room log c.args.size in
    let one = since_begun passes state v read c.begin_reading.new.store log.used q true c.begin_reading.ensures (λ was. c.way_step-way.ensures.reads.since was q) in
    subst {A = Shelf g.row.D.Denot} (λ x. IsSince passes (state s.disk) (state x.disk) (record s { batch = log.used; has_room = room }) x q) (sym c.begin_event.ensures)
    (begun_anew passes state s read log.used true room q one)

pub returns-clause-why : goal.returns-clause-why
returns-clause-why g c =
    let s : Shelf g.row.D.Denot = c.args.store.now in
    let log = c.args.journal.now.log in
    let state = g.D.SectorDisk.state in
    let passes = is_node (format_of g.K.KeyClass) in
    let read : Shelf g.row.D.Denot = c.way_step-way.new.pages in
    let room = has_room log c.args.size in
    let W : Shelf g.row.D.Denot → Shelf g.row.D.Denot → StoreFault → Type 0 = λ x y why. faults.IsWhy passes (state x.disk) (state y.disk) x y why in
    whys (W c.begin_reading.new.store read) (λ why. faults.IsWhy passes (state s.disk) (state c.begin_event.new.store.disk) (record s { batch = log.used; has_room = room }) c.begin_event.new.store why)
    (λ why is. subst {A = Shelf g.row.D.Denot} (λ y. faults.IsWhy passes (state s.disk) (state y.disk) (record s { batch = log.used; has_room = room }) y why) (sym c.begin_event.ensures)
    (why_anew passes (state s.disk) (state read.disk) s read log.used room why (subst {A = Shelf g.row.D.Denot} (λ x. W x read why) c.begin_reading.ensures is)))
    c.way_step-way.result c.way_step-way.ensures.reads.why
