-- The same event over and over, once more at a time.
use Rattle.std.proofs.Common.{ℕ, ◌+◌, List, [], ◌∷◌, ◌++◌, refl}
use Rattle.gx_events.specs.declared.event.Event.{Event}
use Rattle.gx_events.specs.declared.outcome.Outcome.{Outcome}
use Rattle.gx_engine.specs.States.{Parts}
use Rattle.gx_engine.specs.Made.{AreMade}
use Rattle.gx_engine.specs.Repeated.{AreAgain, GoesOn, IsGoingOn, IsRepeated}
use Rattle.gx_engine.proofs.Making.{count_more, made_more}

again_more : {B : Type 0} (event : Event B) (steps : List (Event B × Outcome B)) (given : Outcome B) → AreAgain event steps → GoesOn given
    → AreAgain event (steps ++ (event, given) ∷ [])
again_more event [] given again on = ((refl, on), tt)
again_more event (step ∷ steps) given again on = (again.0, again_more event steps given again.1 on)

module _ {B D : Type 0} (makes : Parts B D → Event B → Outcome B → Parts B D → Type 0) (event : Event B) (old : Parts B D) where
  pub going_on_first : IsGoingOn makes event old 0 old
  going_on_first = record { steps = []; again = tt; made = refl; many = refl }

  pub going_on_more : (count : ℕ) (given : Outcome B) (middle new : Parts B D) → IsGoingOn makes event old count middle → makes middle event given new → GoesOn given
      → IsGoingOn makes event old (count + 1) new
  going_on_more count given middle new before one on = record {
    steps = before.steps ++ (event, given) ∷ [];
    again = again_more event before.steps given before.again on;
    made = made_more makes before.steps old middle new event given before.made one;
    many = count_more before.steps (event, given) count before.many;
  }

  -- all that was made if it was repeated to its end
  pub repeated_made : (last : Outcome B) (new : Parts B D) → IsRepeated makes event old last new → (steps : List (Event B × Outcome B)) × AreMade makes old steps new
  repeated_made last new again =
      (again.before.steps ++ (event, last) ∷ [], made_more makes again.before.steps old again.middle new event last again.before.made again.last_made)
