use Rattle.gx_machine.specs.Keys.{keys}
use Rattle.gx_phases.specs.States.{State}
use Rattle.gx_phases.proofs.Moving.{end_kept}
use Rattle.gx_phases.proofs.sessions.Sessions.end_undo.Goals as goal

pub invariant_of-self : goal.invariant_of-self
invariant_of-self g c =
    let k = keys g.B.Ord.cmp g.B.Shape.overlap g.B.Shape.inside in
    let self = c.self.inside in
    let old : State g.row.B.Denot g.row.W.Denot = record { phases = self.phases.items; table = self.table; transactions = self.transactions.items; next = self.next; latest = self.latest; durable = self.durable; failed = self.failed } in
    let now = c.args.self.now in
    end_kept k old now c.self.view_is c.self.invariant c.args.session c.requires.session c.free.new.phases.items c.release.new.table c.free.ensures c.release.ensures
