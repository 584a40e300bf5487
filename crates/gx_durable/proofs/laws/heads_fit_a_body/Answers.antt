use Rattle.gx_durable.proofs.Beginning.{heads_fit}
use Rattle.gx_durable.proofs.laws.heads_fit_a_body.Goals as goal

pub returns : goal.returns
returns g c = λ l. heads_fit (g.M.Meaning.known l) g.M.Spelled.reading
