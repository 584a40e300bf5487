-- What happens to an index, as the set machine that its engine is seen as.
use Rattle.std.proofs.Common.{ap, List, [], ◌∷◌}
use Rattle.gx_events.specs.Happenings as laws
use Rattle.gx_events.specs.Runs.{AreHappenings}
use Rattle.gx_index_laws.specs.Classes.{Class, IsLawful}
use Rattle.gx_index_laws.specs.Happening.{AreHappening}
use Rattle.gx_index_laws.specs.States as index
use Rattle.gx_index_laws.specs.States.{engine_of}
use Rattle.gx_index_laws.specs.Whole.{IsWhole}
use Rattle.gx_events.specs.declared.event.Event.{Event}
use Rattle.gx_events.specs.declared.outcome.Outcome.{Outcome}
use Rattle.gx_events.specs.Steps.{AreOf, Leads}
use Rattle.gx_events.proofs.Steps.{happens}

module _ {B : Type 0} (c : Class B) (l : IsLawful c) where
  -- events of an index are its engine's
  are_events : (i j : index.State B) (events : List (laws.Happening B)) → AreHappening c i events j → AreHappenings c.keys (engine_of c i) events (engine_of c j)
  are_events i j [] same = ap (engine_of c) same
  are_events i j (event ∷ events) are = (engine_of c are.0, (are.1).is_event, are_events are.0 j events are.2)

  pub event_happens : (i j : index.State B) → IsWhole c i → (event : Event B) (outcome : Outcome B) (events : List (laws.Happening B))
      → AreOf (engine_of c i) event outcome events → AreHappening c i events j → Leads c.keys (engine_of c i) event outcome (engine_of c j)
  event_happens i j whole event outcome events of are m seen =
      happens c.keys l.keys (engine_of c i) whole.sound m seen (engine_of c j) event outcome events of (are_events i j events are)
