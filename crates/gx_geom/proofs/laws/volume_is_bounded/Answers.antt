use Rattle.gx_geom.specs.SolidLaws.{volume_at_most}
use Rattle.gx_geom.proofs.laws.volume_is_bounded.Goals as goal

pub returns-clause-bound : goal.returns-clause-bound
returns-clause-bound c = volume_at_most
