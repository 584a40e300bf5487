-- Events one after another, one more at a time, and joined.
use Rattle.std.proofs.Common.{◌≡◌, ℕ, ◌+◌, List, [], ◌∷◌, ◌++◌, length, length-append, refl, ap, ◌∙◌, subst}
use Rattle.gx_events.specs.declared.event.Event.{Event}
use Rattle.gx_events.specs.declared.outcome.Outcome.{Outcome}
use Rattle.gx_engine.specs.Made.{AreMade}

pub count_more : {A : Type 0} (steps : List A) (step : A) (count : ℕ) → length steps ≡ count → length (steps ++ step ∷ []) ≡ count + 1
count_more steps step count is = length-append steps (step ∷ []) ∙ ap (λ n. n + 1) is

module _ {B S : Type 0} (makes : S → Event B → Outcome B → S → Type 0) where
  pub made_more : (steps : List (Event B × Outcome B)) (old middle new : S) (event : Event B) (given : Outcome B)
      → AreMade makes old steps middle → makes middle event given new → AreMade makes old (steps ++ (event, given) ∷ []) new
  made_more [] old middle new event given same one = (new, subst (λ x. makes x event given new) same one, refl)
  made_more (step ∷ steps) old middle new event given made one = (made.0, made.1, made_more steps made.0 middle new event given made.2 one)

  -- what was made and then made more was made
  pub made_joined : (first next : List (Event B × Outcome B)) (old middle new : S) → AreMade makes old first middle → AreMade makes middle next new
      → AreMade makes old (first ++ next) new
  made_joined [] next old middle new one other = subst (λ (x : S). AreMade makes x next new) one other
  made_joined (step ∷ first) next old middle new one other = (one.0, one.1, made_joined first next one.0 middle new one.2 other)
