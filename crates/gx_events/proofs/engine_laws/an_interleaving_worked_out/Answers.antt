use Rattle.std.proofs.Common.{[], ◌∷◌}
use Rattle.gx_machine.specs.Worked.{number_keys}
use Rattle.gx_events.specs.Engines.{opened_machine}
use Rattle.gx_events.specs.Worked.{sought, first_engine, last_engine, worked_events}
use Rattle.gx_events.proofs.EventRuns.{run_follows}
use Rattle.gx_events.proofs.Views.{opened_sound, opened_seen}
use Rattle.gx_events.proofs.engine_laws.WorkedEvents.{lawful, worked}
use Rattle.gx_events.proofs.engine_laws.an_interleaving_worked_out.Goals as goal

pub returns-clause-lawful : goal.returns-clause-lawful
returns-clause-lawful c = lawful

pub returns-clause-events : goal.returns-clause-events
returns-clause-events c = worked

pub returns-clause-runs : goal.returns-clause-runs
returns-clause-runs c =
    run_follows number_keys lawful worked_events first_engine last_engine (opened_machine 0 (sought ∷ [])) (opened_sound number_keys 0 (sought ∷ []))
    (opened_seen number_keys 0 (sought ∷ []) (tt, tt)) worked
