use Rattle.gx_events.proofs.GivenUp.{given_up}
use Rattle.gx_events.proofs.laws.what_is_found_may_be_given_up.Goals as goal

pub returns : goal.returns
returns g c = λ k old new s entries h. given_up k old new s entries h
