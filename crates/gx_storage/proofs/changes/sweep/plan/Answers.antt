use Rattle.gx_node.specs.Reading.{format_of, is_node}
use Rattle.gx_store.specs.State.{Shelf}
use Rattle.gx_storage.proofs.SmallSweeps.{begun_slots}
use Rattle.gx_storage.proofs.Sweeping.{since_anew, whys_anew}
use Rattle.gx_storage.proofs.changes.sweep.plan.Goals as goal

pub returns-clause-since : goal.returns-clause-since
returns-clause-since g c = λ q.
    let s : Shelf g.row.D.Denot = c.args.store.now in
    let read : Shelf g.row.D.Denot = c.plan_sweep-plan.new.pages in
    since_anew (is_node (format_of g.K.KeyClass)) g.D.SectorDisk.state c.args.journal.now.log _ s c.begin_reading.new.store read c.begin_event.new.store c.begin_reading.ensures
    (begun_slots c.args.journal.now c.args.page read c.begin_event.new.store _ _ _ c.begin_event.ensures c.sweep_size.ensures c.slot_count.ensures.count)
    q (λ was. c.plan_sweep-plan.ensures.reads.since was q)

pub returns-clause-why : goal.returns-clause-why
returns-clause-why g c =
    let s : Shelf g.row.D.Denot = c.args.store.now in
    let read : Shelf g.row.D.Denot = c.plan_sweep-plan.new.pages in
    whys_anew (is_node (format_of g.K.KeyClass)) g.D.SectorDisk.state c.args.journal.now.log _ s c.begin_reading.new.store read c.begin_event.new.store c.begin_reading.ensures
    (begun_slots c.args.journal.now c.args.page read c.begin_event.new.store _ _ _ c.begin_event.ensures c.sweep_size.ensures c.slot_count.ensures.count)
    c.plan_sweep-plan.result c.plan_sweep-plan.ensures.reads.why
