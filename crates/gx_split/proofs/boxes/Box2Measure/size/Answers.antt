use Rattle.std.proofs.Common.{◌∙◌}
use Rattle.gx_split.proofs.boxes.Box2Measure.size.Goals as goal

pub returns-clause-value : goal.returns-clause-value
returns-clause-value c = c.from.ensures ∙ c.area.ensures
