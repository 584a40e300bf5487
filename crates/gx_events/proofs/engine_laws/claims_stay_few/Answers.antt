use Rattle.std.proofs.Common.{refl, ap, ◌∙◌}
use Rattle.gx_events.specs.Asking.{claims_held}
use Rattle.gx_events.proofs.Claims.{claims_stay_few, claims_stay_few_over, refused_as_full, losers_hold}
use Rattle.gx_events.proofs.engine_laws.claims_stay_few.Goals as goal

pub returns-clause-one : goal.returns-clause-one
returns-clause-one g c = λ k l old new event sound is few. claims_stay_few k l old sound new event is few

pub returns-clause-many : goal.returns-clause-many
returns-clause-many g c = λ k l old new m events sound seen run few. claims_stay_few_over k l events old new m sound seen run few

pub returns-clause-full : goal.returns-clause-full
returns-clause-full g c = λ k s call engine given. refused_as_full k s call engine given

pub returns-clause-opened : goal.returns-clause-opened
returns-clause-opened g c = λ k number set. refl

pub returns-clause-losers : goal.returns-clause-losers
returns-clause-losers g c = λ k number losers old new r. ap claims_held r.slots ∙ losers_hold losers
