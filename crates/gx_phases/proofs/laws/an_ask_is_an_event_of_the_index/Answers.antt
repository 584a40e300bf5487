use Rattle.gx_phases.proofs.Indexing.{ask_comes}
use Rattle.gx_phases.proofs.laws.an_ask_is_an_event_of_the_index.Goals as goal

pub returns : goal.returns
returns g c = λ k l i w old kept of s call work given new asks. ask_comes k l i w old kept of s call work given new asks
