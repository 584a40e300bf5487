use Rattle.gx_split.specs.Split.{measure}
use Rattle.gx_split.proofs.laws.Placements.{placement}
use Rattle.gx_split.proofs.laws.each_placement.Goals as goal

pub returns : goal.returns
returns g c = placement (measure g.M.Measure.joined g.M.Measure.extent)
