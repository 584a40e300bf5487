use Rattle.gx_plain.proofs.CallRuns.{call_run}
use Rattle.gx_plain.proofs.laws.each_call_is_a_run.Goals as goal

pub returns-clause-run : goal.returns-clause-run
returns-clause-run g c = λ k s call old new reply plain calls. call_run k s call old new reply plain calls
