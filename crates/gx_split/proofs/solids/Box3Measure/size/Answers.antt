use Rattle.std.proofs.Common.{arith}
use Rattle.gx_geom.specs.SolidLaws.{volume_at_most}
use Rattle.gx_split.proofs.solids.Box3Measure.size.Goals as goal

pub returns-clause-value : goal.returns-clause-value
returns-clause-value c = c.volume.ensures

pub returns-clause-bound : goal.returns-clause-bound
returns-clause-bound c =
    let most = volume_at_most c.args.self.now c.know_solid.ensures in
    omega (arith, most)
