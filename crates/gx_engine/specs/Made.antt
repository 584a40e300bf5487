-- Events that an engine makes one after another.
use Rattle.std.specs.Prelude.{◌≡◌, List, [], ◌∷◌}
use Rattle.gx_class.specs.Traits.{Traits}
use Rattle.gx_disk.specs.Device.{Device}
use Rattle.gx_machine.specs.Keys.{Members}
use Rattle.gx_events.specs.declared.event.Event.{Event}
use Rattle.gx_events.specs.declared.outcome.Outcome.{Outcome}
use Rattle.gx_engine.specs.Calls.{MakesCalls, TellsAs}
use Rattle.gx_engine.specs.States.{IsOrderly, Parts}
use Rattle.gx_engine.specs.Setting.{StepComesAs, StepsAs}

-- An event with its outcome, as the contract of an engine's step has them, over a class of keys and devices that are
-- seen so. The engine's invariant holds before and after it.
pub record Makes {B D : Type 0} (shape : Members B) (traits : Traits B) (state : D → Device)
    (old : Parts B D) (event : Event B) (outcome : Outcome B) (new : Parts B D) : Type 0 where
  pub comes : StepComesAs shape traits state event old new outcome
  pub steps : StepsAs shape traits state event old new outcome
  pub calls : MakesCalls state event old new
  pub told : TellsAs state old new outcome
  pub order : IsOrderly old × IsOrderly new

-- from old, these events with their outcomes lead to new
abbrev pub AreMade : {B S : Type 0} → (S → Event B → Outcome B → S → Type 0) → S → List (Event B × Outcome B) → S → Type 0
AreMade makes old [] new = new ≡ old
AreMade {S = S} makes old (step ∷ steps) new = (middle : S) × makes old step.0 step.1 middle × AreMade makes middle steps new
