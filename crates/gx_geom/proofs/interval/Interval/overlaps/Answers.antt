use Rattle.std.proofs.Common.{rules}
use Rattle.gx_geom.proofs.interval.Interval.overlaps.Goals as goal

pub returns-else-self-other-clause-test : goal.returns-else-self-other-clause-test
returns-else-self-other-clause-test c = search rules

pub returns-else-self-other-clause-ends : goal.returns-else-self-other-clause-ends
returns-else-self-other-clause-ends c = search rules
