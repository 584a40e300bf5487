-- What was made, as steps of an index's engine.
use Rattle.std.proofs.Common.{Bool, ℕ, List, [], ◌∷◌}
use Rattle.gx_class.specs.Traits.{traits_of}
use Rattle.gx_class.specs.declared.class.KeyClass.{Ghosts}
use Rattle.gx_disk.specs.Device.{Device}
use Rattle.gx_machine.specs.Keys.{Members}
use Rattle.gx_node.specs.Reading.{format_of, is_node}
use Rattle.gx_recovery.specs.Known.{Limits}
use Rattle.gx_durable.specs.Classes.{class_of, reading_of}
use Rattle.gx_events.specs.declared.event.Event.{Event}
use Rattle.gx_events.specs.declared.outcome.Outcome.{Outcome}
use Rattle.gx_engine.specs.Running.{AreSteps}
use Rattle.gx_engine.specs.States.{Parts}
use Rattle.gx_engine.specs.Made.{AreMade, Makes}

module _ {C B D : Type 0} (shape : Members B) (proper : B → Bool) (said : List ℕ → B) (class : Ghosts C B) (state : D → Device) (l : Limits) where
  -- they are steps by an index's limits
  pub steps_made : (steps : List (Event B × Outcome B)) (old new : Parts B D) → AreMade (Makes shape (traits_of proper said class) state) old steps new
      → AreSteps (class_of shape proper l) (reading_of said (format_of class)) (format_of class) (is_node (format_of class)) state old steps new
  steps_made [] old new same = same
  steps_made (step ∷ steps) old new made = (made.0, made.1.steps l, steps_made steps made.0 new made.2)
