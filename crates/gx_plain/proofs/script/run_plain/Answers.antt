use Rattle.std.proofs.Common.{rules}
use Rattle.gx_plain.proofs.script.run_plain.Goals as goal

pub returns-clause-done : goal.returns-clause-done
returns-clause-done g c = search rules
