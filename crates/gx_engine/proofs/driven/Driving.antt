-- Events of a session's call, one more at a time.
use Rattle.std.proofs.Common.{◌≡◌, ℕ, ◌+◌, ◌<◌, List, [], ◌∷◌, ◌++◌, length, refl, sym, arith}
use Rattle.gx_machine.specs.declared.reply.Reply.{Reply}
use Rattle.gx_events.specs.declared.event.Event.{Event}
use Rattle.gx_events.specs.declared.outcome.Outcome.{Outcome}
use Rattle.gx_events.specs.declared.driver.Next.{Next}
use Rattle.gx_events.specs.declared.driver.Next.TheVariants.{Run, Done}
use Rattle.gx_events.specs.Driven.{next_of}
use Rattle.gx_engine.specs.States.{Parts}
use Rattle.gx_engine.specs.declared.driven.TheConstants.{EVENTS}
use Rattle.gx_engine.specs.Driven.{AreDriven, IsDriven, IsUnderWay}
use Rattle.gx_engine.proofs.Making.{count_more, made_more}

driven_more : {B : Type 0} (s : ℕ) (due : Next B) (steps : List (Event B × Outcome B)) (event : Event B) (given : Outcome B) (next : Next B)
    → AreDriven s due steps (Run event) → next ≡ next_of s given → AreDriven s due (steps ++ (event, given) ∷ []) next
driven_more s due [] event given next same is = (sym same, is)
driven_more s due (step ∷ steps) event given next are is = (are.0, driven_more s (next_of s step.1) steps event given next are.1 is)

module _ {B D : Type 0} (makes : Parts B D → Event B → Outcome B → Parts B D → Type 0) (s : ℕ) (begun : Event B) (old : Parts B D) where
  pub under_way_first : IsUnderWay makes s begun old 0 begun old
  under_way_first = record { steps = []; driven = refl; made = refl; many = refl }

  pub under_way_more : (count : ℕ) (due next : Event B) (given : Outcome B) (middle new : Parts B D) → IsUnderWay makes s begun old count due middle
      → makes middle due given new → Run next ≡ next_of s given → IsUnderWay makes s begun old (count + 1) next new
  under_way_more count due next given middle new way one is = record {
    steps = way.steps ++ (due, given) ∷ [];
    driven = driven_more s (Run begun) way.steps due given (Run next) way.driven is;
    made = made_more makes way.steps old middle new due given way.made one;
    many = count_more way.steps (due, given) count way.many;
  }

  pub driven_last : (count : ℕ) (due : Event B) (given : Outcome B) (middle new : Parts B D) (reply : Reply B) → IsUnderWay makes s begun old count due middle
      → makes middle due given new → Done reply ≡ next_of s given → count < EVENTS → IsDriven makes s begun old reply new
  driven_last count due given middle new reply way one is few =
      let many : length (way.steps ++ (due, given) ∷ []) ≡ count + 1 = count_more way.steps (due, given) count way.many in
      record {
        steps = way.steps ++ (due, given) ∷ [];
        driven = driven_more s (Run begun) way.steps due given (Done reply) way.driven is;
        made = made_more makes way.steps old middle new due given way.made one;
        few = omega (arith, many, few);
      }
