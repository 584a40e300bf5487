-- What asking does.
use Rattle.std.specs.Prelude.{ℕ, ◌≡◌, ◌-◌, nat_le, Bool, true, false, ◌&&◌, ◌||◌, Result, Ok, Err}
use Rattle.gx_geom.specs.declared.refusal.Refusal.{Refusal}
use Rattle.gx_geom.specs.declared.refusal.Refusal.TheVariants.{NoTransaction, InTransaction, CallOpen, BadSession, Failed, HistoryFull}
use Rattle.gx_machine.specs.declared.limits.TheConstants.{LAST_NUMBER}
use Rattle.gx_machine.specs.declared.call.Call.{Call}
use Rattle.gx_machine.specs.declared.call.Call.TheVariants.{Begin, Insert, Delete, Search, Commit, Abort}
use Rattle.gx_machine.specs.declared.reply.Reply.TheVariants as reply
use Rattle.gx_machine.specs.declared.reply.Asked.{Asked}
use Rattle.gx_machine.specs.declared.reply.Asked.TheVariants as asked
use Rattle.gx_machine.specs.Keys.{Keys}
use Rattle.gx_machine.specs.Machine.{is_session}
use Rattle.gx_machine.specs.Sessions.{Locks}
use Rattle.gx_txn.specs.Tables.{held_by, with_locks, locks_for}
use Rattle.gx_events.specs.Happenings.{Happening, Asks, RefusesAsk}
use Rattle.gx_phases.specs.declared.phase.Phase.{Phase}
use Rattle.gx_phases.specs.declared.phase.Phase.TheVariants as phase
use Rattle.gx_phases.specs.States.{State, phase_at, with_phase_of, with_session, with_transaction}

-- a call is refused, and nothing changes
abbrev pub IsRefused : {B W : Type 0} → Refusal → State B W → Asked B → State B W → Type 0
IsRefused why old given new = (given ≡ asked.Now (reply.Refused why)) × (new ≡ old)

-- a call that gets its lock is open, and the lock is held; one that doesn't is refused
abbrev pub LockTaken : {B W : Type 0} → Result (Locks B) Refusal → ℕ → Call B → W → State B W → Asked B → State B W → Type 0
LockTaken (Ok locks) s call work old given new =
    (given ≡ asked.Open) × (new ≡ with_session s (phase.Open call work) (with_locks locks (held_by s old.table)) old)
LockTaken (Err why) s call work old given new = IsRefused why old given new

-- the last commit's number, or the next transaction's, is 2^64 - 9 or more
abbrev pub is_full : {B W : Type 0} → State B W → Bool
is_full state = nat_le LAST_NUMBER state.latest || nat_le LAST_NUMBER state.next

-- a Begin of a session without a transaction: refused if the numbers are used up, else the session has the next one
abbrev pub Begun : {B W : Type 0} → Bool → ℕ → State B W → Asked B → State B W → Type 0
Begun true s old given new = IsRefused HistoryFull old given new
Begun false s old given new = (given ≡ asked.Now reply.Ok) × (new ≡ with_transaction s old)

-- a call outside of a transaction
abbrev pub AskedFree : {B W : Type 0} → ℕ → Call B → State B W → Asked B → State B W → Type 0
AskedFree s Begin old given new = Begun (is_full old) s old given new
AskedFree s (Insert e) old given new = IsRefused NoTransaction old given new
AskedFree s (Delete e) old given new = IsRefused NoTransaction old given new
AskedFree s (Search q) old given new = IsRefused NoTransaction old given new
AskedFree s Commit old given new = IsRefused NoTransaction old given new
AskedFree s Abort old given new = IsRefused NoTransaction old given new

-- a call in a transaction that has none open
abbrev pub AskedWorking : {B W : Type 0} → Keys B → ℕ → Call B → W → State B W → Asked B → State B W → Type 0
AskedWorking k s Begin work old given new = IsRefused InTransaction old given new
AskedWorking k s (Insert e) work old given new = LockTaken (locks_for k (Insert e) s old.table) s (Insert e) work old given new
AskedWorking k s (Delete e) work old given new = LockTaken (locks_for k (Delete e) s old.table) s (Delete e) work old given new
AskedWorking k s (Search q) work old given new = LockTaken (locks_for k (Search q) s old.table) s (Search q) work old given new
AskedWorking k s Commit work old given new = (given ≡ asked.Open) × (new ≡ with_phase_of s (phase.Open Commit work) old)
AskedWorking k s Abort work old given new = (given ≡ asked.Open) × (new ≡ with_phase_of s (phase.Undoing 0 work) old)

-- by how far the session is
abbrev pub AskedAt : {B W : Type 0} → Keys B → ℕ → Call B → W → Phase B W → State B W → Asked B → State B W → Type 0
AskedAt k s call work phase.Free old given new = AskedFree s call old given new
AskedAt k s call work phase.Working old given new = AskedWorking k s call work old given new
AskedAt k s call work (phase.Open pending on) old given new = IsRefused CallOpen old given new
AskedAt k s call work (phase.Undoing restored on) old given new = IsRefused CallOpen old given new
AskedAt k s call work (phase.Waiting number) old given new = IsRefused CallOpen old given new

-- by whether a fault has made the engine fail, and whether there is a session of this number
abbrev pub AskedBy : {B W : Type 0} → Keys B → ℕ → Call B → W → (failed there : Bool) → State B W → Asked B → State B W → Type 0
AskedBy k s call work true there old given new = IsRefused Failed old given new
AskedBy k s call work false false old given new = IsRefused BadSession old given new
AskedBy k s call work false true old given new = AskedAt k s call work (phase_at (s - 1) old.phases) old given new

-- Asking: the first test that holds decides, in this order.
abbrev pub IsAsked : {B W : Type 0} → Keys B → ℕ → Call B → W → State B W → Asked B → State B W → Type 0
IsAsked k s call work old given new = AskedBy k s call work old.failed (is_session s) old given new

-- a call that begins a transaction, of a session that is this far
abbrev pub is_begin : {B : Type 0} → Call B → Bool
is_begin Begin = true
is_begin (Insert e) = false
is_begin (Delete e) = false
is_begin (Search q) = false
is_begin Commit = false
is_begin Abort = false

abbrev pub is_free : {B W : Type 0} → Phase B W → Bool
is_free phase.Free = true
is_free phase.Working = false
is_free (phase.Open pending on) = false
is_free (phase.Undoing restored on) = false
is_free (phase.Waiting number) = false

abbrev pub begins : {B W : Type 0} → Call B → Phase B W → Bool
begins call p = is_free p && is_begin call

-- a call would begin a transaction, and finds the numbers used up
abbrev pub finds_full : {B W : Type 0} → ℕ → Call B → State B W → Bool
finds_full s call state = is_session s && (begins call (phase_at (s - 1) state.phases) && is_full state)

-- the event of an ask
abbrev pub event_by : {B : Type 0} → (failed full : Bool) → ℕ → Call B → Asked B → Happening B
event_by true full s call given = RefusesAsk s call Failed
event_by false true s call given = RefusesAsk s call HistoryFull
event_by false false s call given = Asks s call given

abbrev pub asked_event : {B W : Type 0} → ℕ → Call B → State B W → Asked B → Happening B
asked_event s call old given = event_by old.failed (finds_full s call old) s call given
