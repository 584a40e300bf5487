use Rattle.std.proofs.Common.{sym, eqb}
use Rattle.gx_script.proofs.WordLemmas.{position-None}
use Rattle.gx_script.proofs.runner.line_end.Goals as goal

pub returns-in-None-clause-value : goal.returns-in-None-clause-value
returns-in-None-clause-value c = position-None (λ b. eqb b 10) c.args.bytes.now (sym c.in-None.ensures)
