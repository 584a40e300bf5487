use Rattle.gx_index_laws.proofs.AskedCalls.{ask_is_refused, history_is_full}
use Rattle.gx_index_laws.proofs.beginnings.a_refused_ask_changes_nothing.Goals as goal

pub returns-clause-refused : goal.returns-clause-refused
returns-clause-refused g c = λ k l old w works s call why given. ask_is_refused k l old w works s call why given

pub returns-clause-history : goal.returns-clause-history
returns-clause-history g c = λ k l old w works s call given. history_is_full k l old w works s call given
