use Rattle.gx_events.proofs.Reopened.{reopened_sound, reopened_as, reopened_opens, reopened_run, reopened_again}
use Rattle.gx_events.proofs.engine_laws.an_opened_engine_may_have_losers.Goals as goal

pub returns-clause-sound : goal.returns-clause-sound
returns-clause-sound g c = λ k number losers old new are r. reopened_sound k losers new are r.slots r.older

pub returns-clause-seen : goal.returns-clause-seen
returns-clause-seen g c = λ k l number losers old new m i seen r. reopened_as k l number losers old new m i seen r

pub returns-clause-opens : goal.returns-clause-opens
returns-clause-opens g c = λ k l number losers old middle new m events i seen are r run all free. reopened_opens k l number losers old middle m i seen r new are events run all free

pub returns-clause-crashes : goal.returns-clause-crashes
returns-clause-crashes g c = λ k l number losers old middle new m events i seen are r run all free. reopened_run k l number losers old middle m i seen r new are events run all free

pub returns-clause-again : goal.returns-clause-again
returns-clause-again g c = λ k l number later losers left old middle cut new m events i seen are r run all r2. reopened_again k l number losers old middle m i seen r events cut are run all later left new r2
