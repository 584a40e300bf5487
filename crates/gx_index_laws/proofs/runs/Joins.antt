-- Events one after another are a run.
use Rattle.std.proofs.Common.{◌≤◌, List, [], ◌∷◌, ap, sym, subst}
use Rattle.gx_machine.specs.Machine.{Machine, fresh_machine}
use Rattle.gx_events.specs.Engines.{SeenAs}
use Rattle.gx_events.specs.Happenings.{Happening}
use Rattle.gx_events.specs.Runs.{AreHappenings, steps_of, RunsAs}
use Rattle.gx_events.proofs.EventRuns.{run_follows}
use Rattle.gx_index_laws.specs.Classes.{Class, IsLawful}
use Rattle.gx_index_laws.specs.States.{State, engine_of, fresh_state}
use Rattle.gx_index_laws.specs.Whole.{IsWhole}
use Rattle.gx_index_laws.specs.Happening.{AreHappening}
use Rattle.gx_index_laws.proofs.FreshIndex.{fresh_whole, fresh_seen}

module _ {B : Type 0} (c : Class B) where
  are_events : (events : List (Happening B)) (old new : State B) → AreHappening c old events new → AreHappenings c.keys (engine_of c old) events (engine_of c new)
  are_events [] old new are = ap (engine_of c) are
  are_events (event ∷ events) old new are = (engine_of c are.0, are.1.is_event, are_events events are.0 new are.2)

  pub whole_after : (events : List (Happening B)) (old new : State B) → IsWhole c old → AreHappening c old events new → IsWhole c new
  whole_after [] old new w are = subst (IsWhole c) (sym are) w
  whole_after (event ∷ events) old new w are = whole_after events are.0 new are.1.whole are.2

  pub happening_runs : IsLawful c → (events : List (Happening B)) (old new : State B) → IsWhole c old → AreHappening c old events new → (m : Machine B)
      → SeenAs c.keys (engine_of c old) m → RunsAs c.keys m (steps_of events) (engine_of c new)
  happening_runs l events old new w are m seen = run_follows c.keys l.keys events (engine_of c old) (engine_of c new) m w.sound seen (are_events events old new are)

  pub fresh_runs : IsLawful c → (start : B) → 2 ≤ c.pages → (new : State B) (events : List (Happening B)) → AreHappening c (fresh_state start) events new
      → RunsAs c.keys fresh_machine (steps_of events) (engine_of c new)
  fresh_runs l start room new events are = happening_runs l events (fresh_state start) new (fresh_whole c start l room) are fresh_machine (fresh_seen c start)
