use Rattle.std.proofs.Common.{rules}
use Rattle.gx_script.proofs.numbers.with_digit.Goals as goal

pub returns-clause-value : goal.returns-clause-value
returns-clause-value c = search rules
