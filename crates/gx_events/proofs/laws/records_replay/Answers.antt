use Rattle.std.proofs.Common.{refl}
use Rattle.gx_events.specs.Replay.{At}
use Rattle.gx_events.proofs.Follows.{stands_itself}
use Rattle.gx_events.proofs.Goes.{goes_on}
use Rattle.gx_events.proofs.laws.records_replay.Goals as goal

pub returns-clause-event : goal.returns-clause-event
returns-clause-event g c = λ k start old new items event outcome replays happens. goes_on k start old new items event outcome replays happens

pub returns-clause-empty : goal.returns-clause-empty
returns-clause-empty g c = λ k start. (start, (At start, refl, refl), stands_itself start)
