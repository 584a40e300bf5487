use Rattle.gx_found_log.proofs.FoundRedone.{found_on_device}
use Rattle.gx_found_log.proofs.laws.a_found_log_gives_pages_of_the_device.Goals as goal

pub returns : goal.returns
returns g c = λ l. found_on_device (g.M.Meaning.known l) g.M.Spelled.reading
