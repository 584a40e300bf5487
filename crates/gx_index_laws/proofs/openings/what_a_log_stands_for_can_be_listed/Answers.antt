use Rattle.gx_index_laws.proofs.Listed.{live_set, log_listed}
use Rattle.gx_index_laws.proofs.openings.what_a_log_stands_for_can_be_listed.Goals as goal

pub returns-clause-live : goal.returns-clause-live
returns-clause-live g c = λ k l t. live_set k l t

pub returns-clause-log : goal.returns-clause-log
returns-clause-log g c = λ k l area log. log_listed k l area log
