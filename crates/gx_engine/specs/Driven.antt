-- A session's call, from one of its events on to its end.
use Rattle.std.specs.Prelude.{ℕ, ◌≡◌, ◌≤◌, length, List, [], ◌∷◌}
use Rattle.gx_machine.specs.declared.reply.Reply.{Reply}
use Rattle.gx_events.specs.declared.event.Event.{Event}
use Rattle.gx_events.specs.declared.outcome.Outcome.{Outcome}
use Rattle.gx_events.specs.declared.driver.Next.{Next}
use Rattle.gx_events.specs.declared.driver.Next.TheVariants.{Run, Done}
use Rattle.gx_events.specs.Driven.{next_of}
use Rattle.gx_engine.specs.declared.driven.TheConstants.{EVENTS}
use Rattle.gx_engine.specs.States.{Parts}
use Rattle.gx_engine.specs.Made.{AreMade}

-- From the first of these on, which is an event that is due or the end of a session's call: each event is the one that was due, and what
-- the session's driver names after its outcome is due next.
abbrev pub AreDriven : {B : Type 0} → ℕ → Next B → List (Event B × Outcome B) → Next B → Type 0
AreDriven s due [] next = next ≡ due
AreDriven s due (step ∷ steps) next = (due ≡ Run step.0) × AreDriven s (next_of s step.1) steps next

module _ {B D : Type 0} (makes : Parts B D → Event B → Outcome B → Parts B D → Type 0) where
  -- From this event of a session on so many were made; then this one is due.
  pub record IsUnderWay (s : ℕ) (first : Event B) (old : Parts B D) (count : ℕ) (due : Event B) (new : Parts B D) : Type 0 where
    pub steps : List (Event B × Outcome B)
    pub driven : AreDriven s (Run first) steps (Run due)
    pub made : AreMade makes old steps new
    pub many : length steps ≡ count

  -- From it on, 2^56 at most were made, to the end of the session's call, which is this reply.
  pub record IsDriven (s : ℕ) (first : Event B) (old : Parts B D) (reply : Reply B) (new : Parts B D) : Type 0 where
    pub steps : List (Event B × Outcome B)
    pub driven : AreDriven s (Run first) steps (Done reply)
    pub made : AreMade makes old steps new
    pub few : length steps ≤ EVENTS

  -- From it on, 2^56 were made; and one more is due.
  abbrev pub IsGivenUp : ℕ → Event B → Parts B D → Parts B D → Type 0
  IsGivenUp s first old new = (due : Event B) × IsUnderWay s first old EVENTS due new
