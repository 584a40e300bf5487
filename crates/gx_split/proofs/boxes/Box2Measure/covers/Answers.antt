use Rattle.std.proofs.Common.{sym, ◌∙◌}
use Rattle.gx_split.proofs.Frames.{union_of_covered}
use Rattle.gx_split.proofs.boxes.Box2Measure.covers.Goals as goal

pub returns : goal.returns
returns c is = union_of_covered c.args.self.now c.args.other.now (sym c.covers.ensures.test ∙ is)
