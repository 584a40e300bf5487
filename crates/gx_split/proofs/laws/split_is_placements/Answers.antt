use Rattle.gx_split.specs.Split.{measure}
use Rattle.gx_split.proofs.laws.Placements.{quadratic_split}
use Rattle.gx_split.proofs.laws.split_is_placements.Goals as goal

pub returns : goal.returns
returns g c = quadratic_split (measure g.M.Measure.joined g.M.Measure.extent)
