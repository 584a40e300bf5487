use Rattle.gx_phases.proofs.sessions.Sessions.fail.Goals as goal

pub invariant_of-self : goal.invariant_of-self
invariant_of-self g c =
    let is = c.self.invariant in
    record { phases = is.phases; table = is.table; transactions = is.transactions; placed = is.placed; numbers = is.numbers; durable = is.durable; sealed = is.sealed }
