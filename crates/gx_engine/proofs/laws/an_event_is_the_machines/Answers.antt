use Rattle.gx_engine.proofs.Machines.{event_happens}
use Rattle.gx_engine.proofs.laws.an_event_is_the_machines.Goals as goal

pub returns : goal.returns
returns g c = λ k l i j whole event outcome events of are. event_happens k l i j whole event outcome events of are
