use Rattle.gx_recovery.proofs.Moves.{found_as_state, found_set, found_latest}
use Rattle.gx_recovery.proofs.laws.found_log_keeps_its_set.Goals as goal

pub returns-clause-healthy : goal.returns-clause-healthy
returns-clause-healthy g c = λ d area log is good. found_as_state (g.M.Meaning.known d) area log is good

pub returns-clause-last : goal.returns-clause-last
returns-clause-last g c = λ d area log. found_latest (g.M.Meaning.known d) area log

pub returns-clause-set : goal.returns-clause-set
returns-clause-set g c = λ d l area log is e. found_set (g.M.Meaning.known d) area log l is e
