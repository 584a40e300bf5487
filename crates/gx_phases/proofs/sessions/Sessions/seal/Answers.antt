use Rattle.std.proofs.Common.{arith}
use Rattle.gx_machine.specs.Keys.{keys}
use Rattle.gx_phases.specs.States.{State}
use Rattle.gx_phases.proofs.Moving.{latest_small, seal_kept}
use Rattle.gx_phases.proofs.sessions.Sessions.seal.Goals as goal

pub overflow_add-number : goal.overflow_add-number
overflow_add-number g c =
    let k = keys g.B.Ord.cmp g.B.Shape.overlap g.B.Shape.inside in
    let self = c.self.inside in
    let old : State g.row.B.Denot g.row.W.Denot = record { phases = self.phases.items; table = self.table; transactions = self.transactions.items; next = self.next; latest = self.latest; durable = self.durable; failed = self.failed } in
    let now = c.args.self.now in
    omega (arith, latest_small k old now c.self.view_is c.self.invariant c.args.session c.requires.session c.requires.commit)

pub invariant_of-self : goal.invariant_of-self
invariant_of-self g c =
    let k = keys g.B.Ord.cmp g.B.Shape.overlap g.B.Shape.inside in
    let self = c.self.inside in
    let old : State g.row.B.Denot g.row.W.Denot = record { phases = self.phases.items; table = self.table; transactions = self.transactions.items; next = self.next; latest = self.latest; durable = self.durable; failed = self.failed } in
    let now = c.args.self.now in
    seal_kept k old now c.self.view_is c.self.invariant c.args.session c.requires.session c.requires.commit c.set_phase.new.phases.items c.release.new.table c.set_phase.ensures c.release.ensures
