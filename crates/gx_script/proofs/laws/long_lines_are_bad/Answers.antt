use Rattle.gx_script.proofs.LineLemmas.{too_long}
use Rattle.gx_script.proofs.laws.long_lines_are_bad.Goals as goal

pub returns : goal.returns
returns g c = λ k bytes long. too_long k bytes long
