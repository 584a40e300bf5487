use Rattle.gx_events.proofs.EventRuns.{run_follows}
use Rattle.gx_events.proofs.Views.{event_is_step}
use Rattle.gx_events.proofs.engine_laws.events_are_a_run.Goals as goal

pub returns-clause-one : goal.returns-clause-one
returns-clause-one g c = λ k l old new m n event sound seen is then_seen. event_is_step k l old new m n event sound seen is then_seen

pub returns-clause-all : goal.returns-clause-all
returns-clause-all g c = λ k l old new m events sound seen run. run_follows k l events old new m sound seen run
