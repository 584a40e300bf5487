use Rattle.std.proofs.Common.{rules}
use Rattle.gx_geom.proofs.interval.Interval.new.Goals as goal

pub returns-else-lo-hi-clause-ok : goal.returns-else-lo-hi-clause-ok
returns-else-lo-hi-clause-ok c = search rules
