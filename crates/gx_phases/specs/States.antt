-- All sessions as a state, and what of it decides.
use Rattle.std.specs.Prelude.{ℕ, ◌≡◌, ◌+◌, ◌-◌, ◌<◌, ◌≤◌, Bool, true, false, not, length, sum_by, replicate, map, None, Some, List, [], ◌∷◌, slice_set}
use Rattle.std.specs.List.{slice_index_or}
use Rattle.gx_machine.specs.declared.limits.TheConstants.{SESSIONS, LAST_NUMBER}
use Rattle.gx_machine.specs.declared.entry.Entry.{Entry}
use Rattle.gx_machine.specs.declared.call.Call.{Call}
use Rattle.gx_machine.specs.declared.call.Call.TheVariants.{Begin, Insert, Delete, Search, Commit, Abort}
use Rattle.gx_machine.specs.Keys.{Keys}
use Rattle.gx_machine.specs.Sets.{InOrder}
use Rattle.gx_txn.specs.declared.note.Note as txn
use Rattle.gx_txn.specs.Notes.{entries_of}
use Rattle.gx_txn.specs.Tables.{Held, nothing_held, with_held, claims}
use Rattle.gx_events.specs.Slots as slots
use Rattle.gx_events.specs.Slots.{Slot, Note}
use Rattle.gx_events.specs.Engines.{Engine}
use Rattle.gx_phases.specs.declared.phase.Phase.{Phase}
use Rattle.gx_phases.specs.declared.phase.Phase.TheVariants as phase

-- how far each session is, what it holds, and the number of its transaction; the number of the next transaction, of the last
-- commit, and of the last one that is durable; whether a fault has made the engine fail
pub record State (B : Type 0) (W : Type 0) : Type 0 where
  pub phases : List (Phase B W)
  pub table : List (Held B)
  pub transactions : List ℕ
  pub next : ℕ
  pub latest : ℕ
  pub durable : ℕ
  pub failed : Bool

-- no session has a transaction
abbrev pub fresh_state : {B : Type 0} → (W : Type 0) → ℕ → ℕ → ℕ → State B W
fresh_state W latest durable next = record {
  phases = replicate SESSIONS phase.Free;
  table = replicate SESSIONS nothing_held;
  transactions = replicate SESSIONS 0;
  next = next;
  latest = latest;
  durable = durable;
  failed = false;
}

-- how far the session at a place is, and what it holds
abbrev pub phase_at : {B W : Type 0} → ℕ → List (Phase B W) → Phase B W
phase_at i phases = slice_index_or phases i phase.Free

abbrev pub held_at : {B : Type 0} → ℕ → List (Held B) → Held B
held_at i table = slice_index_or table i nothing_held

-- the session of this number is this far, and the others as before
abbrev pub with_phase : {B W : Type 0} → ℕ → Phase B W → List (Phase B W) → List (Phase B W)
with_phase s p phases = slice_set phases (s - 1) p

-- the state with a session this far; and with a session that holds this besides
abbrev pub with_phase_of : {B W : Type 0} → ℕ → Phase B W → State B W → State B W
with_phase_of s p state = record state { phases = with_phase s p state.phases }

abbrev pub with_session : {B W : Type 0} → ℕ → Phase B W → Held B → State B W → State B W
with_session s p h state = record state { phases = with_phase s p state.phases; table = with_held s h state.table }

-- the state with a session that begins the next transaction
abbrev pub with_transaction : {B W : Type 0} → ℕ → State B W → State B W
with_transaction s state =
    record state { phases = with_phase s phase.Working state.phases; transactions = slice_set state.transactions (s - 1) state.next; next = state.next + 1 }

-- a note of the table: what was absent or marked wasn't live
abbrev pub note_of : {B : Type 0} → txn.Note B → Note B
note_of n = record { entry = n.entry; was_live = not n.before }

-- a session, by how far it is and by what it holds
abbrev pub slot_of : {B W : Type 0} → Phase B W → Held B → Slot B
slot_of phase.Free h = slots.Free
slot_of phase.Working h = slots.Working h.locks (map note_of h.notes) None
slot_of (phase.Open call work) h = slots.Working h.locks (map note_of h.notes) (Some call)
slot_of (phase.Undoing restored work) h = slots.Undoing h.locks (map note_of h.notes)
slot_of (phase.Waiting number) h = slots.Waiting number

abbrev pub slots_of : {B W : Type 0} → List (Phase B W) → List (Held B) → List (Slot B)
slots_of [] table = []
slots_of (p ∷ phases) [] = []
slots_of (p ∷ phases) (h ∷ table) = slot_of p h ∷ slots_of phases table

-- what decides, if these entries are live and these are the kept sets but the last
abbrev pub engine_of : {B W : Type 0} → (Entry B → Bool) → List (List (Entry B)) → State B W → Engine B
engine_of live older state = record {
  live = live;
  slots = slots_of state.phases state.table;
  older = older;
  oldest = state.durable;
  failed = state.failed;
}

-- a session without a transaction holds nothing
abbrev pub HoldsNothing : {B W : Type 0} → Phase B W → Held B → Type 0
HoldsNothing phase.Free h = h ≡ nothing_held
HoldsNothing phase.Working h = Unit {0}
HoldsNothing (phase.Open call work) h = Unit {0}
HoldsNothing (phase.Undoing restored work) h = Unit {0}
HoldsNothing (phase.Waiting number) h = h ≡ nothing_held

-- a call that writes an entry has claimed it
abbrev pub ClaimsFor : {B : Type 0} → Keys B → Call B → Held B → Type 0
ClaimsFor k Begin h = Unit {0}
ClaimsFor k (Insert e) h = claims k e h ≡ true
ClaimsFor k (Delete e) h = claims k e h ≡ true
ClaimsFor k (Search query) h = Unit {0}
ClaimsFor k Commit h = Unit {0}
ClaimsFor k Abort h = Unit {0}

-- so has an open one
abbrev pub ClaimsItsEntry : {B W : Type 0} → Keys B → Phase B W → Held B → Type 0
ClaimsItsEntry k phase.Free h = Unit {0}
ClaimsItsEntry k phase.Working h = Unit {0}
ClaimsItsEntry k (phase.Open call work) h = ClaimsFor k call h
ClaimsItsEntry k (phase.Undoing restored work) h = Unit {0}
ClaimsItsEntry k (phase.Waiting number) h = Unit {0}

-- one if a session has a transaction whose commit may come
abbrev pub may_commit : {B W : Type 0} → Phase B W → ℕ
may_commit phase.Free = 0
may_commit phase.Working = 1
may_commit (phase.Open call work) = 1
may_commit (phase.Undoing restored work) = 0
may_commit (phase.Waiting number) = 0

-- a session waits for no commit that isn't sealed
abbrev pub WaitsForSealed : {B W : Type 0} → ℕ → Phase B W → Type 0
WaitsForSealed latest p = (number : ℕ) → p ≡ phase.Waiting number → number ≤ latest

-- what is kept of each session: without a transaction it holds nothing; an open write claims its entry; notes are in the order
-- of their entries
pub record IsPlaced {B : Type 0} {W : Type 0} (k : Keys B) (p : Phase B W) (h : Held B) : Type 0 where
  pub nothing : HoldsNothing p h
  pub claimed : ClaimsItsEntry k p h
  pub in_order : InOrder k (entries_of h.notes)

-- What is kept of all: eight sessions, each as it should be; numbers are left for the commits of all transactions that may
-- commit; no commit is durable that isn't sealed, and none is waited for.
pub record IsKept {B : Type 0} {W : Type 0} (k : Keys B) (state : State B W) : Type 0 where
  pub phases : length state.phases ≡ SESSIONS
  pub table : length state.table ≡ SESSIONS
  pub transactions : length state.transactions ≡ SESSIONS
  pub placed : (i : ℕ) → i < SESSIONS → IsPlaced k (phase_at i state.phases) (held_at i state.table)
  pub numbers : state.latest + sum_by may_commit state.phases ≤ LAST_NUMBER + SESSIONS
  pub durable : state.durable ≤ state.latest
  pub sealed : (i : ℕ) → WaitsForSealed state.latest (phase_at i state.phases)
