use Rattle.std.proofs.Common.{sym, ◌∙◌}
use Rattle.gx_split.proofs.Frames.{union_of_covered_solid}
use Rattle.gx_split.proofs.solids.Box3Measure.covers.Goals as goal

pub returns : goal.returns
returns c is = union_of_covered_solid c.args.self.now c.args.other.now (sym c.covers.ensures.test ∙ is)
