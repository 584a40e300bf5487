-- Which event comes next in a session's call.
use Rattle.std.specs.Prelude.{ℕ}
use Rattle.gx_machine.specs.declared.reply.Reply.TheVariants as reply
use Rattle.gx_events.specs.declared.event.Event.TheVariants.{Move, LogStep, WritePage, CheckpointStep}
use Rattle.gx_events.specs.declared.outcome.Outcome.{Outcome}
use Rattle.gx_events.specs.declared.outcome.Outcome.TheVariants as outcome
use Rattle.gx_events.specs.declared.outcome.Need.TheVariants as need
use Rattle.gx_events.specs.declared.driver.Next.{Next}
use Rattle.gx_events.specs.declared.driver.Next.TheVariants.{Run, Done}

-- what follows this outcome in a call of the session
abbrev pub next_of : {B : Type 0} → ℕ → Outcome B → Next B
next_of s (outcome.Replied r) = Done r
next_of s outcome.More = Run (Move s)
next_of s (outcome.Help need.Log) = Run LogStep
next_of s (outcome.Help (need.Write page)) = Run (WritePage page)
next_of s (outcome.Help need.Checkpoint) = Run CheckpointStep
next_of s outcome.Nothing = Run (Move s)
next_of s (outcome.Refused why) = Done (reply.Refused why)
