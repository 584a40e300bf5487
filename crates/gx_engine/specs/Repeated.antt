-- An event that is repeated until there is nothing to do.
use Rattle.std.specs.Prelude.{ℕ, ◌≡◌, ◌<◌, length, Result, Ok, Err, List, [], ◌∷◌}
use Rattle.gx_geom.specs.declared.refusal.Refusal.{Refusal}
use Rattle.gx_events.specs.declared.event.Event.{Event}
use Rattle.gx_events.specs.declared.event.Event.TheVariants.{CheckpointStep, LogStep}
use Rattle.gx_events.specs.declared.outcome.Outcome.{Outcome}
use Rattle.gx_events.specs.declared.outcome.Outcome.TheVariants as outcome
use Rattle.gx_engine.specs.declared.driven.TheConstants.{EVENTS}
use Rattle.gx_engine.specs.States.{Parts}
use Rattle.gx_engine.specs.Made.{AreMade}

-- there may be more to do: the event was neither refused, nor had it nothing to do
abbrev pub GoesOn : {B : Type 0} → Outcome B → Type 0
GoesOn (outcome.Replied reply) = Unit {0}
GoesOn outcome.More = Unit {0}
GoesOn (outcome.Help need) = Unit {0}
GoesOn outcome.Nothing = ⊥
GoesOn (outcome.Refused why) = ⊥

-- each is this event, after which there may be more to do
abbrev pub AreAgain : {B : Type 0} → Event B → List (Event B × Outcome B) → Type 0
AreAgain event [] = Unit {0}
AreAgain event (step ∷ steps) = ((step.0 ≡ event) × GoesOn step.1) × AreAgain event steps

-- a step of the log, or of a checkpoint
abbrev pub IsFlushing : {B : Type 0} → Event B → Type 0
IsFlushing LogStep = Unit {0}
IsFlushing CheckpointStep = Unit {0}
IsFlushing event = ⊥

-- the outcome that ends a repetition with this result
abbrev pub last_of : {B : Type 0} → Result (Unit {0}) Refusal → Outcome B
last_of (Ok done) = outcome.Nothing
last_of (Err why) = outcome.Refused why

module _ {B D : Type 0} (makes : Parts B D → Event B → Outcome B → Parts B D → Type 0) where
  -- An event was made so many times, after each of which there may be more to do.
  pub record IsGoingOn (event : Event B) (old : Parts B D) (count : ℕ) (new : Parts B D) : Type 0 where
    pub steps : List (Event B × Outcome B)
    pub again : AreAgain event steps
    pub made : AreMade makes old steps new
    pub many : length steps ≡ count

  -- It was repeated, 2^56 times at most, until its outcome was this.
  pub record IsRepeated (event : Event B) (old : Parts B D) (last : Outcome B) (new : Parts B D) : Type 0 where
    pub count : ℕ
    pub middle : Parts B D
    pub before : IsGoingOn event old count middle
    pub last_made : makes middle event last new
    pub few : count < EVENTS
