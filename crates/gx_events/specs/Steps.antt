-- Which events of an engine, as its laws have them, an event with its outcome is.
use Rattle.std.specs.Prelude.{ℕ, ◌≡◌, ◌⊎◌, Bool, true, false, List, [], ◌∷◌}
use Rattle.gx_geom.specs.declared.refusal.Refusal.TheVariants as refusal
use Rattle.gx_machine.specs.declared.call.Call.{Call}
use Rattle.gx_machine.specs.declared.reply.Reply.{Reply}
use Rattle.gx_machine.specs.declared.reply.Reply.TheVariants as reply
use Rattle.gx_machine.specs.declared.reply.Asked.TheVariants as asked
use Rattle.gx_machine.specs.Keys.{Keys}
use Rattle.gx_machine.specs.Machine.{Machine, is_session}
use Rattle.gx_events.specs.Slots.{is_unanswered, slot_at}
use Rattle.gx_events.specs.Engines.{Engine, SeenAs}
use Rattle.gx_events.specs.Happenings as laws
use Rattle.gx_events.specs.declared.event.Event.{Event}
use Rattle.gx_events.specs.declared.event.Event.TheVariants.{Ask, Move, LogStep, WritePage, CheckpointStep, Sweep}
use Rattle.gx_events.specs.declared.outcome.Outcome.{Outcome}
use Rattle.gx_events.specs.declared.outcome.Outcome.TheVariants.{Replied, More, Help, Nothing, Refused}
use Rattle.gx_events.specs.Happens.{Happens, may_lack}

-- An ask is given a reply at once, or is open; or it is refused, since a fault had ended the engine, or since a Begin finds the numbers
-- used up.
abbrev pub IsAsk : {B : Type 0} → ℕ → Call B → Bool → Outcome B → List (laws.Happening B) → Type 0
IsAsk s call failed (Replied r) events =
    (events ≡ laws.Asks s call (asked.Now r) ∷ [])
    ⊎ (((failed ≡ true) × (r ≡ reply.Refused refusal.Failed) × (events ≡ laws.RefusesAsk s call refusal.Failed ∷ []))
    ⊎ ((r ≡ reply.Refused refusal.HistoryFull) × (events ≡ laws.RefusesAsk s call refusal.HistoryFull ∷ [])))
IsAsk s call failed More events = events ≡ laws.Asks s call asked.Open ∷ []
IsAsk s call failed other events = ⊥

-- the end of a session's call, with this reply; or it meets a fault
abbrev pub IsEnd : {B : Type 0} → ℕ → Bool → Reply B → laws.Happening B → Type 0
IsEnd s failed r (laws.Inserts t e) = (t ≡ s) × (r ≡ reply.Inserted)
IsEnd s failed r (laws.Deletes t e) = (t ≡ s) × (r ≡ reply.Deleted)
IsEnd s failed r (laws.FindsPresent t e) = (t ≡ s) × (r ≡ reply.Refused refusal.Present)
IsEnd s failed r (laws.FindsAbsent t e) = (t ≡ s) × (r ≡ reply.Refused refusal.Absent)
IsEnd s failed r (laws.Finds t query entries) = (t ≡ s) × (r ≡ reply.Found entries)
IsEnd s failed r (laws.Closes t call why) = (t ≡ s) × (r ≡ reply.Refused why) × (may_lack why call ≡ true)
IsEnd s failed r (laws.Acknowledges t number) = (t ≡ s) × (r ≡ reply.Committed number)
IsEnd s failed r (laws.EndsUndo t) = (t ≡ s) × (r ≡ reply.Aborted)
IsEnd s failed r (laws.RefusesCall t why) = (t ≡ s) × (r ≡ reply.Refused why) × (why ≡ refusal.Failed → failed ≡ true)
IsEnd s failed r other = ⊥

-- a call goes on: its commit is sealed, an entry is undone, or nothing that decides changes
abbrev pub GoesOn : {B : Type 0} → ℕ → laws.Happening B → Type 0
GoesOn s (laws.Seals t set number) = t ≡ s
GoesOn s (laws.Undoes t e) = t ≡ s
GoesOn s laws.Works = Unit {0}
GoesOn s other = ⊥

-- just this event; or this one after work that decides nothing
abbrev pub IsJust : {B : Type 0} → laws.Happening B → List (laws.Happening B) → Type 0
IsJust event events = (events ≡ event ∷ []) ⊎ (events ≡ laws.Works ∷ event ∷ [])

-- A move ends its session's call, or goes on with it, or waits for another event; or it is refused because there is no
-- such session or call.
abbrev pub IsMove : {B : Type 0} → ℕ → Engine B → Outcome B → List (laws.Happening B) → Type 0
IsMove {B} s old (Replied r) events = (event : laws.Happening B) × IsJust event events × IsEnd s old.failed r event
IsMove {B} s old More events = (old.failed ≡ false) × ((event : laws.Happening B) × (events ≡ event ∷ []) × GoesOn s event)
IsMove s old (Help need) events = (old.failed ≡ false) × (events ≡ [])
IsMove s old Nothing events = ⊥
IsMove s old (Refused refusal.BadSession) events = (is_session s ≡ false) × (events ≡ [])
IsMove s old (Refused refusal.NoCall) events = (is_session s ≡ true) × (is_unanswered (slot_at s old.slots) ≡ false) × (events ≡ [])
IsMove s old (Refused why) events = ⊥

-- An event that is no session's works, waits for another, finds nothing to do, or meets a fault, perhaps with its work half done.
abbrev pub IsWork : {B : Type 0} → Bool → Outcome B → List (laws.Happening B) → Type 0
IsWork failed (Replied r) events = ⊥
IsWork failed More events = (failed ≡ false) × (events ≡ laws.Works ∷ [])
IsWork failed (Help need) events = (failed ≡ false) × (events ≡ [])
IsWork failed Nothing events = (failed ≡ false) × (events ≡ [])
IsWork failed (Refused refusal.Device) events = (failed ≡ false) × IsJust laws.Fails events
IsWork failed (Refused refusal.Failed) events = (failed ≡ true) × (events ≡ [])
IsWork failed (Refused why) events = ⊥

-- one by which commits may become durable
abbrev pub IsSync : {B : Type 0} → Bool → Outcome B → List (laws.Happening B) → Type 0
IsSync failed More events = (failed ≡ false) × ((events ≡ []) ⊎ ((events ≡ laws.Works ∷ []) ⊎ ((number : ℕ) × (events ≡ laws.Durable number ∷ []))))
IsSync failed other events = IsWork failed other events

-- over this engine, this event with this outcome is these events
abbrev pub AreOf : {B : Type 0} → Engine B → Event B → Outcome B → List (laws.Happening B) → Type 0
AreOf old (Ask s call) outcome events = IsAsk s call old.failed outcome events
AreOf old (Move s) outcome events = IsMove s old outcome events
AreOf old LogStep outcome events = IsSync old.failed outcome events
AreOf old (WritePage page) outcome events = IsWork old.failed outcome events
AreOf old CheckpointStep outcome events = IsSync old.failed outcome events
AreOf old (Sweep page) outcome events = IsWork old.failed outcome events

-- whatever machine an engine is seen as, it is seen then as the one that the event and its outcome lead to
abbrev pub Leads : {B : Type 0} → Keys B → Engine B → Event B → Outcome B → Engine B → Type 0
Leads {B} k old event outcome new = (m : Machine B) → SeenAs k old m → (n : Machine B) × Happens k m event outcome n × SeenAs k new n
