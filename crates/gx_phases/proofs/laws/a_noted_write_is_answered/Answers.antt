use Rattle.std.proofs.Common.{true, false}
use Rattle.gx_machine.specs.declared.call.Call.TheVariants.{Insert, Delete}
use Rattle.gx_phases.proofs.laws.Events.{is_written}
use Rattle.gx_phases.proofs.laws.a_noted_write_is_answered.Goals as goal

pub returns-clause-inserts : goal.returns-clause-inserts
returns-clause-inserts g c =
    λ k l live later older old kept works s is e leaf work at was lives. is_written k live older old kept works s is l later (Insert e) work at e true leaf was lives

pub returns-clause-deletes : goal.returns-clause-deletes
returns-clause-deletes g c =
    λ k l live later older old kept works s is e leaf work at was lives. is_written k live older old kept works s is l later (Delete e) work at e false leaf was lives
