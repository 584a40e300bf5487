use Rattle.gx_index_laws.proofs.runs.Joins.{happening_runs, whole_after, fresh_runs}
use Rattle.gx_index_laws.proofs.runs.any_events_are_a_run.Goals as goal

pub returns-clause-runs : goal.returns-clause-runs
returns-clause-runs g c = λ k l old new events w are m seen. happening_runs k l events old new w are m seen

pub returns-clause-whole : goal.returns-clause-whole
returns-clause-whole g c = λ k old new events w are. whole_after k events old new w are

pub returns-clause-from_fresh : goal.returns-clause-from_fresh
returns-clause-from_fresh g c = λ k l start room new events are. fresh_runs k l start room new events are
