use Rattle.gx_split.specs.Split.{measure}
use Rattle.gx_split.proofs.Wastes.{fair_split}
use Rattle.gx_split.proofs.laws.split_is_fair.Goals as goal

pub returns : goal.returns
returns g c = fair_split (measure g.M.Measure.joined g.M.Measure.extent)
