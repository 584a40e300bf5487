use Rattle.gx_restart.proofs.Durable.{all_durable}
use Rattle.gx_restart.proofs.laws.a_settled_index_is_durable.Goals as goal

pub returns : goal.returns
returns g c = λ l e bodies i h rest. all_durable _ _ _ _ _ e bodies i h rest.quiet
