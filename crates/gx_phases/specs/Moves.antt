-- What a session's call comes to.
use Rattle.std.specs.Prelude.{ℕ, ◌≡◌, ◌+◌, ◌-◌, nat_le, nat_lt, Bool, true, false, if◌then◌else◌, length, Option, None, Some, Result, Ok, Err, IsOk, List, slice_get, slice_set}
use Rattle.std.specs.List.{slice_index_or}
use Rattle.gx_geom.specs.declared.refusal.Refusal.{Refusal}
use Rattle.gx_machine.specs.declared.entry.Entry.{Entry}
use Rattle.gx_machine.specs.declared.call.Call.{Call}
use Rattle.gx_machine.specs.declared.call.Call.TheVariants.{Begin, Insert, Delete, Search, Commit, Abort}
use Rattle.gx_machine.specs.Keys.{Keys}
use Rattle.gx_machine.specs.Sessions.{Locks}
use Rattle.gx_txn.specs.declared.note.Note as txn
use Rattle.gx_txn.specs.Notes.{noting}
use Rattle.gx_txn.specs.Tables.{Held, nothing_held, held_by, with_held, with_notes, with_locks}
use Rattle.gx_phases.specs.declared.phase.Phase.{Phase}
use Rattle.gx_phases.specs.declared.phase.Phase.TheVariants as phase
use Rattle.gx_phases.specs.States.{State, phase_at, with_phase_of, with_session}

-- a call is open
abbrev pub is_open : {B W : Type 0} → Phase B W → Bool
is_open phase.Free = false
is_open phase.Working = false
is_open (phase.Open call work) = true
is_open (phase.Undoing restored work) = false
is_open (phase.Waiting number) = false

-- a commit was asked, and isn't sealed
abbrev pub is_commit : {B : Type 0} → Call B → Bool
is_commit Begin = false
is_commit (Insert e) = false
is_commit (Delete e) = false
is_commit (Search q) = false
is_commit Commit = true
is_commit Abort = false

abbrev pub asks_commit : {B W : Type 0} → Phase B W → Bool
asks_commit phase.Free = false
asks_commit phase.Working = false
asks_commit (phase.Open call work) = is_commit call
asks_commit (phase.Undoing restored work) = false
asks_commit (phase.Waiting number) = false

-- a call that writes this entry is open
abbrev pub WritesEntry : {B : Type 0} → Entry B → Call B → Type 0
WritesEntry e Begin = ⊥
WritesEntry e (Insert x) = x ≡ e
WritesEntry e (Delete x) = x ≡ e
WritesEntry e (Search q) = ⊥
WritesEntry e Commit = ⊥
WritesEntry e Abort = ⊥

abbrev pub HasWrite : {B W : Type 0} → Entry B → Phase B W → Type 0
HasWrite e phase.Free = ⊥
HasWrite e phase.Working = ⊥
HasWrite e (phase.Open call work) = WritesEntry e call
HasWrite e (phase.Undoing restored work) = ⊥
HasWrite e (phase.Waiting number) = ⊥

-- a transaction is undone
abbrev pub is_undoing : {B W : Type 0} → Phase B W → Bool
is_undoing phase.Free = false
is_undoing phase.Working = false
is_undoing (phase.Open call work) = false
is_undoing (phase.Undoing restored work) = true
is_undoing (phase.Waiting number) = false

-- so many notes are restored
abbrev pub restored_by : {B W : Type 0} → Phase B W → Option ℕ
restored_by phase.Free = None
restored_by phase.Working = None
restored_by (phase.Open call work) = None
restored_by (phase.Undoing restored work) = Some restored
restored_by (phase.Waiting number) = None

-- the number of a commit that isn't acknowledged
abbrev pub waits_for : {B W : Type 0} → Phase B W → Option ℕ
waits_for phase.Free = None
waits_for phase.Working = None
waits_for (phase.Open call work) = None
waits_for (phase.Undoing restored work) = None
waits_for (phase.Waiting number) = Some number

-- the work of an open call or of an undo, and the phase with this work in its place; another phase keeps none, and this
-- one is returned
abbrev pub with_work : {B W : Type 0} → W → Phase B W → W × Phase B W
with_work work phase.Free = (work, phase.Free)
with_work work phase.Working = (work, phase.Working)
with_work work (phase.Open call before) = (before, phase.Open call work)
with_work work (phase.Undoing restored before) = (before, phase.Undoing restored work)
with_work work (phase.Waiting number) = (work, phase.Waiting number)

-- an open call and an undo keep work
abbrev pub has_work : {B W : Type 0} → Phase B W → Bool
has_work phase.Free = false
has_work phase.Working = false
has_work (phase.Open call work) = true
has_work (phase.Undoing restored work) = true
has_work (phase.Waiting number) = false

-- the number of a session's transaction
abbrev pub transaction_of : {B W : Type 0} → ℕ → State B W → ℕ
transaction_of s state = slice_index_or state.transactions (s - 1) 0

-- a session's open call is answered: its locks stay
abbrev pub answered_state : {B W : Type 0} → ℕ → State B W → State B W
answered_state s state = with_phase_of s phase.Working state

-- the same, with a write's note
abbrev pub written_state : {B W : Type 0} → Keys B → ℕ → txn.Note B → State B W → State B W
written_state k s n state = with_session s phase.Working (with_notes (noting k n (held_by s state.table).notes) (held_by s state.table)) state

-- a session's commit is sealed, under the next number: what the session held is free
abbrev pub sealed_state : {B W : Type 0} → ℕ → State B W → State B W
sealed_state s state = record (with_session s (phase.Waiting (state.latest + 1)) nothing_held state) { latest = state.latest + 1 }

-- the number, if it is durable
abbrev pub covered : ℕ → Option ℕ → Option ℕ
covered durable None = None
covered durable (Some number) = if nat_le number durable then Some number else None

-- a session's commit is acknowledged, if its number is durable
abbrev pub Acknowledged : {B W : Type 0} → Option ℕ → ℕ → State B W → State B W → Type 0
Acknowledged None s old new = new ≡ old
Acknowledged (Some number) s old new = new ≡ with_phase_of s phase.Free old

-- so many are restored, if a note is left
abbrev pub before_last : ℕ → Option ℕ → Option ℕ
before_last notes None = None
before_last notes (Some restored) = if nat_lt restored notes then Some restored else None

abbrev pub next_of : {B W : Type 0} → ℕ → State B W → Option ℕ
next_of s state = before_last (length (held_by s state.table).notes) (restored_by (phase_at (s - 1) state.phases))

-- the notes with the one at a place written in this leaf
abbrev pub moved : {B : Type 0} → ℕ → txn.Note B → ℕ → List (txn.Note B) → List (txn.Note B)
moved place n leaf notes = slice_set notes place (record n { leaf = leaf })

-- a session's undo has restored so many notes and this one, by a write in this leaf
abbrev pub restored_state : {B W : Type 0} → ℕ → ℕ → txn.Note B → ℕ → W → State B W → State B W
restored_state s restored n leaf work state =
    with_session s (phase.Undoing (restored + 1) work) (with_notes (moved restored n leaf (held_by s state.table).notes) (held_by s state.table)) state

-- one note more is restored, if one is left, by a write in this leaf, and this is the work on the next
abbrev pub RestoredOne : {B W : Type 0} → Option ℕ → ℕ → ℕ → W → State B W → State B W → Type 0
RestoredOne None s leaf work old new = new ≡ old
RestoredOne {B} (Some restored) s leaf work old new =
    (n : txn.Note B) × (slice_get (held_by s old.table).notes restored ≡ Some n) × (new ≡ restored_state s restored n leaf work old)

-- the note at a place is of a last write in this leaf, which it keeps beside its mark from before
abbrev pub MovedIn : {B : Type 0} → ℕ → ℕ → ℕ → List (Held B) → List (Held B) → Type 0
MovedIn {B} s place leaf old new =
    (n : txn.Note B) × (slice_get (held_by s old).notes place ≡ Some n) × (new ≡ with_held s (with_notes (moved place n leaf (held_by s old).notes) (held_by s old)) old)

-- a session's undo has ended: what it held is free
abbrev pub ended_state : {B W : Type 0} → ℕ → State B W → State B W
ended_state s state = with_session s phase.Free nothing_held state

-- commits are durable up to a number; a fault made the engine fail
abbrev pub synced_state : {B W : Type 0} → ℕ → State B W → State B W
synced_state number state = record state { durable = number }

abbrev pub failed_state : {B W : Type 0} → State B W → State B W
failed_state state = record state { failed = true }

-- a note of what a session wrote, if it gets its lock; or why it doesn't, and nothing changes
abbrev pub HeldNote : {B : Type 0} → Keys B → Result (Locks B) Refusal → ℕ → txn.Note B → List (Held B) → Result (Unit {0}) Refusal → List (Held B) → Type 0
HeldNote k (Ok locks) s n old result new =
    IsOk result × (new ≡ with_held s (with_notes (noting k n (held_by s old).notes) (with_locks locks (held_by s old))) old)
HeldNote k (Err why) s n old result new = (result ≡ Err why) × (new ≡ old)

-- a session may take up a transaction that is to be undone: it has none, or undoes one
abbrev pub may_lose : {B W : Type 0} → Phase B W → Bool
may_lose phase.Free = true
may_lose phase.Working = false
may_lose (phase.Open call work) = false
may_lose (phase.Undoing restored work) = true
may_lose (phase.Waiting number) = false

-- it undoes that one from its first note on, with this note and its lock more; or it doesn't get the lock, and nothing
-- changes
abbrev pub TakesUp : {B W : Type 0} → Keys B → Result (Locks B) Refusal → ℕ → ℕ → txn.Note B → W → State B W → Result (Unit {0}) Refusal → State B W → Type 0
TakesUp k (Ok locks) s t n work old result new =
    IsOk result
    × (new ≡ record (with_session s (phase.Undoing 0 work) (with_notes (noting k n (held_by s old.table).notes) (with_locks locks (held_by s old.table))) old) {
      transactions = slice_set old.transactions (s - 1) t;
    })
TakesUp k (Err why) s t n work old result new = (result ≡ Err why) × (new ≡ old)
