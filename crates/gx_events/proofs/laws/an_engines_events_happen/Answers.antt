use Rattle.gx_events.proofs.Steps.{happens}
use Rattle.gx_events.proofs.laws.an_engines_events_happen.Goals as goal

pub returns : goal.returns
returns g c = λ k l old new sound event outcome events is are m seen. happens k l old sound m seen new event outcome events is are
