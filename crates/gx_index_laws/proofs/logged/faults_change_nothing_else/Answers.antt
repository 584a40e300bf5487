use Rattle.std.proofs.Common.{refl}
use Rattle.gx_geom.specs.declared.refusal.Refusal.TheVariants.{Device, Failed}
use Rattle.gx_events.specs.Happenings.{Fails, RefusesAsk, RefusesCall}
use Rattle.gx_index_laws.specs.States.{engine_of}
use Rattle.gx_index_laws.specs.Happening.{failed_state}
use Rattle.gx_index_laws.proofs.AskedCalls.{faulted}
use Rattle.gx_index_laws.proofs.Quiet.{as_it_is}
use Rattle.gx_index_laws.proofs.logged.faults_change_nothing_else.Goals as goal

pub returns-clause-unseen : goal.returns-clause-unseen
returns-clause-unseen g c = λ k l old w. faulted k l old w Fails (as_it_is (engine_of k (failed_state old))) refl

pub returns-clause-ask : goal.returns-clause-ask
returns-clause-ask g c = λ k l old w works s call. faulted k l old w (RefusesAsk s call Device) (works, as_it_is (engine_of k (failed_state old))) refl

pub returns-clause-failed_ask : goal.returns-clause-failed_ask
returns-clause-failed_ask g c = λ k l old w s call. faulted k l old w (RefusesAsk s call Failed) (as_it_is (engine_of k (failed_state old))) refl

pub returns-clause-call : goal.returns-clause-call
returns-clause-call g c = λ k l old w works s waits. faulted k l old w (RefusesCall s Device) (waits, (works, as_it_is (engine_of k (failed_state old)))) refl

pub returns-clause-failed_call : goal.returns-clause-failed_call
returns-clause-failed_call g c = λ k l old w s waits. faulted k l old w (RefusesCall s Failed) (waits, as_it_is (engine_of k (failed_state old))) refl
