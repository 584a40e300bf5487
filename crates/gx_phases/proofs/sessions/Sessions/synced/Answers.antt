use Rattle.std.proofs.Common.{ap, arith}
use Rattle.gx_phases.specs.States.{State}
use Rattle.gx_phases.proofs.sessions.Sessions.synced.Goals as goal

pub invariant_of-self : goal.invariant_of-self
invariant_of-self g c =
    let is = c.self.invariant in
    record {
      phases = is.phases;
      table = is.table;
      transactions = is.transactions;
      placed = is.placed;
      numbers = is.numbers;
      durable = omega (arith, c.requires.sealed, ap (λ (x : State g.row.B.Denot g.row.W.Denot). x.latest) c.self.view_is);
      sealed = is.sealed;
    }
