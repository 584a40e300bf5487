-- Lack of memory: which events may be refused memory. For every other event it was allocated before.
use Rattle.std.specs.Prelude.{◌≡◌, Bool, true, false}
use Rattle.gx_geom.specs.declared.refusal.Refusal.{Refusal}
use Rattle.gx_geom.specs.declared.refusal.Refusal.TheVariants.{Memory}
use Rattle.gx_machine.specs.declared.call.Call.TheVariants.{Insert, Delete, Search}
use Rattle.gx_machine.specs.declared.reply.Reply.TheVariants.{Refused as RefusedCall}
use Rattle.gx_events.specs.declared.event.Event.{Event}
use Rattle.gx_events.specs.declared.event.Event.TheVariants.{Move}
use Rattle.gx_events.specs.declared.outcome.Outcome.{Outcome}
use Rattle.gx_events.specs.declared.outcome.Outcome.TheVariants.{Replied, Refused}
use Rattle.gx_phases.specs.declared.phase.Phase.{Phase}
use Rattle.gx_phases.specs.declared.phase.Phase.TheVariants as phase
use Rattle.gx_engine.specs.declared.work.Work.{Work}
use Rattle.gx_engine.specs.Setting.{phase_in}
use Rattle.gx_engine.specs.States.{Parts}
use Rattle.gx_engine.specs.Writes.{is_looking}

abbrev pub is_memory : Refusal → Bool
is_memory Memory = true
is_memory other = false

-- an outcome that says that memory was refused
abbrev pub is_lack : {B : Type 0} → Outcome B → Bool
is_lack (Replied (RefusedCall why)) = is_memory why
is_lack (Refused why) = is_memory why
is_lack other = false

-- a call takes memory: a search, and a write while it looks for its pair
abbrev pub takes_memory : {B : Type 0} → Phase B (Work B) → Bool
takes_memory (phase.Open (Search query) work) = true
takes_memory (phase.Open (Insert entry) work) = is_looking work
takes_memory (phase.Open (Delete entry) work) = is_looking work
takes_memory other = false

-- the moves of such a call alone
abbrev pub may_take : {B D : Type 0} → Event B → Parts B D → Bool
may_take (Move s) e = takes_memory (phase_in s e)
may_take other e = false

-- an event is refused memory only if it may take some
abbrev pub LacksOnlyThere : {B D : Type 0} → Event B → Parts B D → Outcome B → Type 0
LacksOnlyThere event e outcome = is_lack outcome ≡ true → may_take event e ≡ true
