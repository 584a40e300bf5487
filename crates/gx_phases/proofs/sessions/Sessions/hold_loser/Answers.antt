use Rattle.std.proofs.Common.{subst}
use Rattle.std.specs.Prelude.{Ok, Err, slice_set}
use Rattle.gx_machine.specs.Keys.{keys, IsLawful}
use Rattle.gx_machine.specs.declared.call.Call.TheVariants.{Insert}
use Rattle.gx_txn.specs.Tables.{locks_for}
use Rattle.gx_phases.specs.States.{State}
use Rattle.gx_phases.specs.Moves.{TakesUp}
use Rattle.gx_phases.proofs.Losing.{refused_kept, refused_takes, taken_kept, taken_up}
use Rattle.gx_phases.proofs.sessions.Sessions.hold_loser.Goals as goal

pub invariant_of-self : goal.invariant_of-self
invariant_of-self g c =
    let k = keys g.B.Ord.cmp g.B.Shape.overlap g.B.Shape.inside in
    let lawful : IsLawful k = record { total = g.met.B.Ord.total; exact = g.met.B.Shape.same } in
    let self = c.self.inside in
    let old : State g.row.B.Denot g.row.W.Denot = record { phases = self.phases.items; table = self.table; transactions = self.transactions.items; next = self.next; latest = self.latest; durable = self.durable; failed = self.failed } in
    let s = c.args.session in
    let n = c.args.note in
    let r = locks_for k (Insert n.entry) s self.table in
    taken_kept k lawful old c.self.invariant s c.requires.session n c.args.transaction c.place_of.result c.args.work tt c.set_phase.new.phases.items c.hold.new.table c.place_of.ensures.place c.set_phase.ensures r c.in-Ok.ensures

pub returns-in-Ok : goal.returns-in-Ok
returns-in-Ok g c =
    let k = keys g.B.Ord.cmp g.B.Shape.overlap g.B.Shape.inside in
    let lawful : IsLawful k = record { total = g.met.B.Ord.total; exact = g.met.B.Shape.same } in
    let self = c.self.inside in
    let old : State g.row.B.Denot g.row.W.Denot = record { phases = self.phases.items; table = self.table; transactions = self.transactions.items; next = self.next; latest = self.latest; durable = self.durable; failed = self.failed } in
    let s = c.args.session in
    let n = c.args.note in
    let r = locks_for k (Insert n.entry) s self.table in
    subst (λ (x : State g.row.B.Denot g.row.W.Denot). TakesUp k (locks_for k (Insert n.entry) s x.table) s c.args.transaction n c.args.work x (Ok tt) (record { phases = c.set_phase.new.phases.items; table = c.hold.new.table; transactions = slice_set self.transactions.items c.place_of.result c.args.transaction; next = self.next; latest = self.latest; durable = self.durable; failed = self.failed })) c.self.view_is
    (taken_up k lawful old c.self.invariant s c.requires.session n c.args.transaction c.place_of.result c.args.work tt c.set_phase.new.phases.items c.hold.new.table c.place_of.ensures.place c.set_phase.ensures r c.in-Ok.ensures)

pub invariant_of-self-in-Err-1 : goal.invariant_of-self-in-Err-1
invariant_of-self-in-Err-1 g c =
    let k = keys g.B.Ord.cmp g.B.Shape.overlap g.B.Shape.inside in
    let lawful : IsLawful k = record { total = g.met.B.Ord.total; exact = g.met.B.Shape.same } in
    let self = c.self.inside in
    let old : State g.row.B.Denot g.row.W.Denot = record { phases = self.phases.items; table = self.table; transactions = self.transactions.items; next = self.next; latest = self.latest; durable = self.durable; failed = self.failed } in
    let s = c.args.session in
    let n = c.args.note in
    let r = locks_for k (Insert n.entry) s self.table in
    refused_kept k lawful old c.self.invariant s c.requires.session n r c.in-Err.why c.hold.new.table c.in-Err.ensures

pub returns-in-Err : goal.returns-in-Err
returns-in-Err g c =
    let k = keys g.B.Ord.cmp g.B.Shape.overlap g.B.Shape.inside in
    let lawful : IsLawful k = record { total = g.met.B.Ord.total; exact = g.met.B.Shape.same } in
    let self = c.self.inside in
    let old : State g.row.B.Denot g.row.W.Denot = record { phases = self.phases.items; table = self.table; transactions = self.transactions.items; next = self.next; latest = self.latest; durable = self.durable; failed = self.failed } in
    let s = c.args.session in
    let n = c.args.note in
    let r = locks_for k (Insert n.entry) s self.table in
    subst (λ (x : State g.row.B.Denot g.row.W.Denot). TakesUp k (locks_for k (Insert n.entry) s x.table) s c.args.transaction n c.args.work x (Err c.in-Err.why) (record { phases = self.phases.items; table = c.hold.new.table; transactions = self.transactions.items; next = self.next; latest = self.latest; durable = self.durable; failed = self.failed })) c.self.view_is
    (refused_takes k lawful old c.self.invariant s c.requires.session n r c.in-Err.why c.args.transaction c.args.work c.hold.new.table c.in-Err.ensures)
