use Rattle.gx_durable.proofs.Beginning.{first_up}
use Rattle.gx_durable.proofs.laws.a_new_device_is_up.Goals as goal

pub returns : goal.returns
returns g c = λ l. first_up (g.M.Meaning.known l) g.M.Spelled.reading
