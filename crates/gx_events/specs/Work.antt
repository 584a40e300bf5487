-- Which events are no session's, and which outcomes end a call.
use Rattle.std.specs.Prelude.{ℕ, Bool, true, false}
use Rattle.gx_events.specs.declared.event.Event.{Event}
use Rattle.gx_events.specs.declared.event.Event.TheVariants.{Ask, Move, LogStep, WritePage, CheckpointStep, Sweep}
use Rattle.gx_events.specs.declared.outcome.Outcome.{Outcome}
use Rattle.gx_events.specs.declared.outcome.Outcome.TheVariants.{Replied}

-- an event that is no session's
abbrev pub is_work : {B : Type 0} → Event B → Bool
is_work (Ask s call) = false
is_work (Move s) = false
is_work LogStep = true
is_work (WritePage page) = true
is_work CheckpointStep = true
is_work (Sweep page) = true

-- one if an outcome ends a call with a reply
abbrev pub replied : {B : Type 0} → Outcome B → ℕ
replied (Replied r) = 1
replied other = 0
