-- Asking, except for a Begin outside of a transaction, on the two lists that it changes.
use Rattle.std.specs.Prelude.{ℕ, ◌≡◌, Result, Ok, Err, List}
use Rattle.gx_geom.specs.declared.refusal.Refusal.{Refusal}
use Rattle.gx_geom.specs.declared.refusal.Refusal.TheVariants.{NoTransaction, InTransaction, CallOpen}
use Rattle.gx_machine.specs.declared.call.Call.{Call}
use Rattle.gx_machine.specs.declared.call.Call.TheVariants.{Begin, Insert, Delete, Search, Commit, Abort}
use Rattle.gx_machine.specs.declared.reply.Reply.TheVariants as reply
use Rattle.gx_machine.specs.declared.reply.Asked.{Asked}
use Rattle.gx_machine.specs.declared.reply.Asked.TheVariants as asked
use Rattle.gx_machine.specs.Keys.{Keys}
use Rattle.gx_machine.specs.Sessions.{Locks}
use Rattle.gx_txn.specs.Tables.{Held, held_by, with_held, with_locks, locks_for}
use Rattle.gx_phases.specs.declared.phase.Phase.{Phase}
use Rattle.gx_phases.specs.declared.phase.Phase.TheVariants as phase
use Rattle.gx_phases.specs.States.{with_phase}

-- a call is refused, and nothing changes
abbrev pub Stays : {B W : Type 0} → Refusal → List (Phase B W) → Asked B → List (Phase B W) → Type 0
Stays why old given new = (given ≡ asked.Now (reply.Refused why)) × (new ≡ old)

-- a call that gets its lock is open; one that doesn't is refused, and nothing changes
abbrev pub LockTakenIn : {B W : Type 0} → Result (Locks B) Refusal → ℕ → Call B → W → List (Phase B W) → List (Held B) → Asked B → List (Phase B W) → List (Held B) → Type 0
LockTakenIn (Ok locks) s call work phases table given phases' table' =
    (given ≡ asked.Open) × (phases' ≡ with_phase s (phase.Open call work) phases) × (table' ≡ with_held s (with_locks locks (held_by s table)) table)
LockTakenIn (Err why) s call work phases table given phases' table' = Stays why phases given phases' × (table' ≡ table)

-- the same, if the table has answered
abbrev pub Settled : {B W : Type 0} → Result (Unit {0}) Refusal → ℕ → Call B → W → List (Phase B W) → Asked B → List (Phase B W) → Type 0
Settled (Ok done) s call work phases given phases' = (given ≡ asked.Open) × (phases' ≡ with_phase s (phase.Open call work) phases)
Settled (Err why) s call work phases given phases' = Stays why phases given phases'

-- a call in a transaction that has none open
abbrev pub WorkingAsked : {B W : Type 0} → Keys B → ℕ → Call B → W → List (Phase B W) → List (Held B) → Asked B → List (Phase B W) → List (Held B) → Type 0
WorkingAsked k s Begin work phases table given phases' table' = Stays InTransaction phases given phases' × (table' ≡ table)
WorkingAsked k s (Insert e) work phases table given phases' table' = LockTakenIn (locks_for k (Insert e) s table) s (Insert e) work phases table given phases' table'
WorkingAsked k s (Delete e) work phases table given phases' table' = LockTakenIn (locks_for k (Delete e) s table) s (Delete e) work phases table given phases' table'
WorkingAsked k s (Search q) work phases table given phases' table' = LockTakenIn (locks_for k (Search q) s table) s (Search q) work phases table given phases' table'
WorkingAsked k s Commit work phases table given phases' table' =
    (given ≡ asked.Open) × (phases' ≡ with_phase s (phase.Open Commit work) phases) × (table' ≡ table)
WorkingAsked k s Abort work phases table given phases' table' =
    (given ≡ asked.Open) × (phases' ≡ with_phase s (phase.Undoing 0 work) phases) × (table' ≡ table)

-- by how far the session is
abbrev pub PartsAsked : {B W : Type 0} → Keys B → ℕ → Call B → W → Phase B W → List (Phase B W) → List (Held B) → Asked B → List (Phase B W) → List (Held B) → Type 0
PartsAsked k s call work phase.Free phases table given phases' table' = Stays NoTransaction phases given phases' × (table' ≡ table)
PartsAsked k s call work phase.Working phases table given phases' table' = WorkingAsked k s call work phases table given phases' table'
PartsAsked k s call work (phase.Open pending on) phases table given phases' table' = Stays CallOpen phases given phases' × (table' ≡ table)
PartsAsked k s call work (phase.Undoing restored on) phases table given phases' table' = Stays CallOpen phases given phases' × (table' ≡ table)
PartsAsked k s call work (phase.Waiting number) phases table given phases' table' = Stays CallOpen phases given phases' × (table' ≡ table)
