-- Events one after another, and the machine's run that they are.
use Rattle.std.specs.Prelude.{◌≡◌, List, [], ◌∷◌, map}
use Rattle.gx_machine.specs.Keys.{Keys}
use Rattle.gx_machine.specs.Machine.{Machine}
use Rattle.gx_machine.specs.Runs.{Step, IsRun}
use Rattle.gx_events.specs.Engines.{Engine, IsSound, SeenAs}
use Rattle.gx_events.specs.Happenings.{Happening, IsHappening, step_of}

-- from old, these events lead to new
abbrev pub AreHappenings : {B : Type 0} → Keys B → Engine B → List (Happening B) → Engine B → Type 0
AreHappenings k old [] new = new ≡ old
AreHappenings {B} k old (event ∷ events) new = (middle : Engine B) × IsHappening k old event middle × AreHappenings k middle events new

-- the machine's steps of events
abbrev pub steps_of : {B : Type 0} → List (Happening B) → List (Step B)
steps_of events = map step_of events

-- These steps are a run of the machine, whose end the engine is seen as; and the engine is sound there.
pub record RunsAs {B : Type 0} (k : Keys B) (start : Machine B) (steps : List (Step B)) (engine : Engine B) : Type 0 where
  pub end : Machine B
  pub runs : IsRun k start steps end
  pub seen : SeenAs k engine end
  pub sound : IsSound k engine
