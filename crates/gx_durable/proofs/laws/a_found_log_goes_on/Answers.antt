use Rattle.gx_durable.proofs.GoingOn.{found_goes, found_runs, same_log_stands, closing_keeps}
use Rattle.gx_durable.proofs.laws.a_found_log_goes_on.Goals as goal

pub returns-clause-up : goal.returns-clause-up
returns-clause-up g c = λ l. found_goes (g.M.Meaning.known l) g.M.Spelled.reading

pub returns-clause-runs : goal.returns-clause-runs
returns-clause-runs g c = λ l d. found_runs (g.M.Meaning.known l) g.M.Spelled.reading _

pub returns-clause-same : goal.returns-clause-same
returns-clause-same g c = λ l. same_log_stands (g.M.Meaning.known l) g.M.Spelled.reading

pub returns-clause-closing : goal.returns-clause-closing
returns-clause-closing g c = λ l d e. closing_keeps (g.M.Meaning.known l) g.M.Spelled.reading _ _
