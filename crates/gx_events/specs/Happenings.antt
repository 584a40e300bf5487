-- What happens to an engine, each kind in a line, with the machine's step of it.
use Rattle.std.specs.Prelude.{ℕ, ◌≡◌, ◌+◌, ◌-◌, ◌≤◌, Bool, true, false, not, ◌&&◌, if◌then◌else◌, None, Some, replicate, drop, List, [], ◌∷◌, ◌++◌}
use Rattle.gx_geom.specs.declared.refusal.Refusal.{Refusal}
use Rattle.gx_geom.specs.declared.refusal.Refusal.TheVariants as refusal
use Rattle.gx_machine.specs.declared.limits.TheConstants.{SESSIONS}
use Rattle.gx_machine.specs.declared.entry.Entry.{Entry}
use Rattle.gx_machine.specs.declared.query.Query.{Query}
use Rattle.gx_machine.specs.declared.call.Call.{Call}
use Rattle.gx_machine.specs.declared.call.Call.TheVariants.{Insert, Delete, Search, Commit}
use Rattle.gx_machine.specs.declared.reply.Reply.TheVariants as reply
use Rattle.gx_machine.specs.declared.reply.Asked.{Asked}
use Rattle.gx_machine.specs.declared.reply.Asked.TheVariants.{Now}
use Rattle.gx_machine.specs.Keys.{Keys, same_entry, matches}
use Rattle.gx_machine.specs.Sets.{IsSetOf}
use Rattle.gx_machine.specs.Sessions.{Locks}
use Rattle.gx_machine.specs.Runs as runs
use Rattle.gx_events.specs.Slots.{Note, Slot, Free, Working, Undoing, Waiting, slot_at, with_slot, noted, WithNote, is_unanswered}
use Rattle.gx_events.specs.Engines.{Engine, last_number, stood, kept, IsSame}
use Rattle.gx_events.specs.Asking.{ask}

-- The events. A session asks; or its ask is refused for a cause outside of its locks. Its open call is answered: an insert
-- made its entry live, or found it so; a delete made it dead, or found it so; a search found these entries; or it is
-- closed unanswered. A commit is sealed, commits are durable up to a number, a commit is acknowledged. An abort undoes
-- one entry, and ends. An unanswered call is refused for a fault. A fault comes that no session sees. The engine is
-- lost, and opened again over the set of a number. Or it works on, and changes nothing that decides: a page is split,
-- a bound widened, a look goes on, a leaf is swept, a log's batch is written.
pub data Happening (B : Type 0) : Type 0 where
  Asks : (s : ℕ) (call : Call B) (given : Asked B) → Happening B
  RefusesAsk : (s : ℕ) (call : Call B) (why : Refusal) → Happening B
  Inserts : (s : ℕ) (e : Entry B) → Happening B
  Deletes : (s : ℕ) (e : Entry B) → Happening B
  FindsPresent : (s : ℕ) (e : Entry B) → Happening B
  FindsAbsent : (s : ℕ) (e : Entry B) → Happening B
  Finds : (s : ℕ) (query : Query B) (entries : List (Entry B)) → Happening B
  Closes : (s : ℕ) (call : Call B) (why : Refusal) → Happening B
  Seals : (s : ℕ) (set : List (Entry B)) (number : ℕ) → Happening B
  Durable : (number : ℕ) → Happening B
  Acknowledges : (s number : ℕ) → Happening B
  Undoes : (s : ℕ) (e : Entry B) → Happening B
  EndsUndo : (s : ℕ) → Happening B
  RefusesCall : (s : ℕ) (why : Refusal) → Happening B
  Fails : Happening B
  Opens : (number : ℕ) → Happening B
  Works : Happening B

-- with this entry live or not, and every other one unchanged
abbrev pub marked : {B : Type 0} → Keys B → Entry B → Bool → (Entry B → Bool) → Entry B → Bool
marked k e now live x = if same_entry k x e then now else live x

-- the engine with this slot
abbrev pub slotted : {B : Type 0} → ℕ → Slot B → Engine B → Engine B
slotted s slot engine = record engine { slots = with_slot s slot engine.slots }

-- a fault made the engine fail
abbrev pub failed_engine : {B : Type 0} → Engine B → Engine B
failed_engine engine = record engine { failed = true }

-- A write: the entry wasn't so and is now, it is noted, and the call is closed.
pub record IsWritten {B : Type 0} (k : Keys B) (s : ℕ) (call : Call B) (e : Entry B) (now : Bool) (old new : Engine B) : Type 0 where
  pub works : old.failed ≡ false
  pub locks : Locks B
  pub notes : List (Note B)
  pub asked : slot_at s old.slots ≡ Working locks notes (Some call)
  pub was : old.live e ≡ not now
  pub then_notes : List (Note B)
  pub with_note : WithNote k e (not now) notes then_notes
  pub is : IsSame new (record old { live = marked k e now old.live; slots = with_slot s (Working locks then_notes None) old.slots })

-- the call is closed, and nothing else changes
pub record IsClosed {B : Type 0} (s : ℕ) (call : Call B) (old new : Engine B) : Type 0 where
  pub works : old.failed ≡ false
  pub locks : Locks B
  pub notes : List (Note B)
  pub asked : slot_at s old.slots ≡ Working locks notes (Some call)
  pub is : IsSame new (slotted s (Working locks notes None) old)

-- a commit that was asked is sealed: the set that was committed before is one of the older sets, and the notes are gone
pub record IsSealed {B : Type 0} (k : Keys B) (s : ℕ) (set : List (Entry B)) (number : ℕ) (old new : Engine B) : Type 0 where
  pub works : old.failed ≡ false
  pub locks : Locks B
  pub notes : List (Note B)
  pub asked : slot_at s old.slots ≡ Working locks notes (Some Commit)
  pub next : number ≡ last_number old + 1
  pub stands : IsSetOf k (stood k old) set
  pub is : IsSame new (record old { older = old.older ++ set ∷ []; slots = with_slot s (Waiting number) old.slots })

-- older sets go from the front
pub record IsDurable {B : Type 0} (number : ℕ) (old new : Engine B) : Type 0 where
  pub works : old.failed ≡ false
  pub rises : old.oldest ≤ number
  pub sealed : number ≤ last_number old
  pub is : IsSame new (record old { older = drop (number - old.oldest) old.older; oldest = number })

-- a commit that is durable is acknowledged
pub record IsAcknowledged {B : Type 0} (s number : ℕ) (old new : Engine B) : Type 0 where
  pub works : old.failed ≡ false
  pub waits : slot_at s old.slots ≡ Waiting number
  pub is_durable : number ≤ old.oldest
  pub is : IsSame new (slotted s Free old)

-- one entry gets its mark from before the first write
pub record IsUndone {B : Type 0} (k : Keys B) (s : ℕ) (e : Entry B) (old new : Engine B) : Type 0 where
  pub works : old.failed ≡ false
  pub locks : Locks B
  pub notes : List (Note B)
  pub aborts : slot_at s old.slots ≡ Undoing locks notes
  pub was_live : Bool
  pub was_noted : noted k e notes ≡ Some was_live
  pub is : IsSame new (record old { live = marked k e was_live old.live })

-- all of them have it
pub record IsRestored {B : Type 0} (k : Keys B) (s : ℕ) (old new : Engine B) : Type 0 where
  pub works : old.failed ≡ false
  pub locks : Locks B
  pub notes : List (Note B)
  pub aborts : slot_at s old.slots ≡ Undoing locks notes
  pub restored : (e : Entry B) (was_live : Bool) → noted k e notes ≡ Some was_live → old.live e ≡ was_live
  pub is : IsSame new (slotted s Free old)

-- the engine is lost, and one is opened over a kept set
pub record IsOpened {B : Type 0} (k : Keys B) (number : ℕ) (old new : Engine B) : Type 0 where
  pub rises : old.oldest ≤ number
  pub sealed : number ≤ last_number old
  pub live : (e : Entry B) → new.live e ≡ kept k number old e
  pub slots : new.slots ≡ replicate SESSIONS Free
  pub older : new.older ≡ []
  pub oldest : new.oldest ≡ number
  pub failed : new.failed ≡ false

-- a call meets a fault: the device fails in it, or had failed
abbrev pub MeetsFault : {B : Type 0} → Refusal → Engine B → Engine B → Type 0
MeetsFault refusal.Device old new = (old.failed ≡ false) × IsSame new (failed_engine old)
MeetsFault refusal.Failed old new = IsSame new (failed_engine old)
MeetsFault other old new = ⊥

-- an ask is refused: a Begin that would be answered Ok finds its numbers used up, or a fault
abbrev pub AskRefused : {B : Type 0} → Keys B → ℕ → Call B → Refusal → Engine B → Engine B → Type 0
AskRefused k s call refusal.HistoryFull old new = (old.failed ≡ false) × ((ask k s call old).0 ≡ Now reply.Ok) × IsSame new old
AskRefused k s call refusal.Device old new = MeetsFault refusal.Device old new
AskRefused k s call refusal.Failed old new = MeetsFault refusal.Failed old new
AskRefused k s call other old new = ⊥

-- From old, this event leads to new.
abbrev pub IsHappening : {B : Type 0} → Keys B → Engine B → Happening B → Engine B → Type 0
IsHappening k old (Asks s call given) new = (old.failed ≡ false) × ((ask k s call old).0 ≡ given) × IsSame new (ask k s call old).1
IsHappening k old (RefusesAsk s call why) new = AskRefused k s call why old new
IsHappening k old (Inserts s e) new = IsWritten k s (Insert e) e true old new
IsHappening k old (Deletes s e) new = IsWritten k s (Delete e) e false old new
IsHappening k old (FindsPresent s e) new = (old.live e ≡ true) × IsClosed s (Insert e) old new
IsHappening k old (FindsAbsent s e) new = (old.live e ≡ false) × IsClosed s (Delete e) old new
IsHappening k old (Finds s query entries) new = IsSetOf k (λ e. matches k query e && old.live e) entries × IsClosed s (Search query) old new
IsHappening k old (Closes s call why) new = (runs.may_close why ≡ true) × IsClosed s call old new
IsHappening k old (Seals s set number) new = IsSealed k s set number old new
IsHappening k old (Durable number) new = IsDurable number old new
IsHappening k old (Acknowledges s number) new = IsAcknowledged s number old new
IsHappening k old (Undoes s e) new = IsUndone k s e old new
IsHappening k old (EndsUndo s) new = IsRestored k s old new
IsHappening k old (RefusesCall s why) new = (is_unanswered (slot_at s old.slots) ≡ true) × MeetsFault why old new
IsHappening k old Fails new = IsSame new (failed_engine old)
IsHappening k old (Opens number) new = IsOpened k number old new
IsHappening k old Works new = IsSame new old

-- the machine's step of an event
abbrev pub step_of : {B : Type 0} → Happening B → runs.Step B
step_of (Asks s call given) = runs.Asks s call given
step_of (RefusesAsk s call why) = runs.RefusesAsk s call why
step_of (Inserts s e) = runs.Answers s reply.Inserted
step_of (Deletes s e) = runs.Answers s reply.Deleted
step_of (FindsPresent s e) = runs.Answers s (reply.Refused refusal.Present)
step_of (FindsAbsent s e) = runs.Answers s (reply.Refused refusal.Absent)
step_of (Finds s query entries) = runs.Answers s (reply.Found entries)
step_of (Closes s call why) = runs.Closes s why
step_of (Seals s set number) = runs.Seals s number
step_of (Durable number) = runs.Durable number
step_of (Acknowledges s number) = runs.Answers s (reply.Committed number)
step_of (Undoes s e) = runs.Nothing
step_of (EndsUndo s) = runs.Answers s reply.Aborted
step_of (RefusesCall s why) = runs.RefusesCall s why
step_of Fails = runs.Fails
step_of (Opens number) = runs.Crashes number
step_of Works = runs.Nothing
