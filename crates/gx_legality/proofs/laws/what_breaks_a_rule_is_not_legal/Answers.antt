use Rattle.gx_legality.proofs.laws.Denied.{denied}
use Rattle.gx_legality.proofs.laws.what_breaks_a_rule_is_not_legal.Goals as goal

pub returns : goal.returns
returns g c = λ r t p rule broken legal. denied r t p rule broken legal
