use Rattle.std.proofs.Common.{refl, ap, sym, ◌∙◌, length}
use Rattle.gx_machine.specs.Keys.{keys}
use Rattle.gx_txn.specs.Tables.{held_by}
use Rattle.gx_phases.specs.Moves.{next_of}
use Rattle.gx_phases.specs.States.{State}
use Rattle.gx_phases.proofs.Moved.{next_low, one_restored}
use Rattle.gx_phases.proofs.Moving.{restored_kept}
use Rattle.gx_phases.proofs.sessions.Sessions.restored.Goals as goal

pub write_again-requires-clause-there : goal.write_again-requires-clause-there
write_again-requires-clause-there g c =
    let self = c.self.inside in
    let old : State g.row.B.Denot g.row.W.Denot = record { phases = self.phases.items; table = self.table; transactions = self.transactions.items; next = self.next; latest = self.latest; durable = self.durable; failed = self.failed } in
    next_low (length (held_by c.args.session old.table).notes) _ c.in-Some.restored
    (c.in-Some.ensures.next ∙ sym (ap (λ (x : State g.row.B.Denot g.row.W.Denot). next_of c.args.session x) c.self.view_is))

pub returns-in-Some : goal.returns-in-Some
returns-in-Some g c =
    let self = c.self.inside in
    let old : State g.row.B.Denot g.row.W.Denot = record { phases = self.phases.items; table = self.table; transactions = self.transactions.items; next = self.next; latest = self.latest; durable = self.durable; failed = self.failed } in
    one_restored c.args.session c.in-Some.restored c.args.leaf c.args.work old c.args.self.now _ c.set_phase.new.phases.items c.write_again.new.table c.self.view_is c.in-Some.ensures.next
    c.set_phase.ensures c.write_again.ensures refl

pub invariant_of-self : goal.invariant_of-self
invariant_of-self g c =
    let k = keys g.B.Ord.cmp g.B.Shape.overlap g.B.Shape.inside in
    let self = c.self.inside in
    let old : State g.row.B.Denot g.row.W.Denot = record { phases = self.phases.items; table = self.table; transactions = self.transactions.items; next = self.next; latest = self.latest; durable = self.durable; failed = self.failed } in
    let now = c.args.self.now in
    restored_kept k old now c.self.view_is c.self.invariant c.args.session c.requires c.set_phase.new.phases.items c.write_again.new.table c.in-Some.restored c.args.leaf c.args.work c.set_phase.ensures c.write_again.ensures
