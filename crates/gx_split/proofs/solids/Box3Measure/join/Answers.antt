use Rattle.gx_geom.specs.SolidLaws.{volume_grows}
use Rattle.gx_split.proofs.solids.Box3Measure.join.Goals as goal

pub returns-clause-no_smaller : goal.returns-clause-no_smaller
returns-clause-no_smaller c = volume_grows c.args.self.now c.args.other.now c.know_solid.ensures

pub returns-clause-value : goal.returns-clause-value
returns-clause-value c = c.union.ensures
