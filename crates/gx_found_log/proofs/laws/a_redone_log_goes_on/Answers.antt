use Rattle.gx_found_log.proofs.laws.GoingOn.{redone_goes_on}
use Rattle.gx_found_log.proofs.laws.a_redone_log_goes_on.Goals as goal

pub returns : goal.returns
returns g c = λ l d e b f. redone_goes_on (g.M.Meaning.known l) g.M.Spelled.reading _ _ _ _
