use Rattle.std.proofs.Common.{rules}
use Rattle.gx_plain.proofs.held.write_conflicts.Goals as goal

pub returns-then-has : goal.returns-then-has
returns-then-has g c = search rules
