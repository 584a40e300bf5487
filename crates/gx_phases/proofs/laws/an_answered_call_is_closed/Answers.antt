use Rattle.gx_machine.specs.declared.call.Call.TheVariants.{Insert, Delete, Search}
use Rattle.gx_phases.proofs.laws.Events.{is_closed}
use Rattle.gx_phases.proofs.laws.an_answered_call_is_closed.Goals as goal

pub returns-clause-present : goal.returns-clause-present
returns-clause-present g c =
    λ k live older old kept works s is e work at was. (was, is_closed k live older old kept works s is (Insert e) work at)

pub returns-clause-absent : goal.returns-clause-absent
returns-clause-absent g c =
    λ k live older old kept works s is e work at was. (was, is_closed k live older old kept works s is (Delete e) work at)

pub returns-clause-found : goal.returns-clause-found
returns-clause-found g c =
    λ k live older old kept works s is query work at entries set. (set, is_closed k live older old kept works s is (Search query) work at)

pub returns-clause-closed : goal.returns-clause-closed
returns-clause-closed g c =
    λ k live older old kept works s is call work at why may. (may, is_closed k live older old kept works s is call work at)
