-- What decides an engine's answers, and the set machine that it is seen as.
use Rattle.std.specs.Prelude.{ℕ, ◌≡◌, ◌≢◌, ◌+◌, ◌-◌, Bool, false, not, nat_lt, if◌then◌else◌, None, Some, length, map, filter, unwrap_or, replicate, All, List, []}
use Rattle.std.specs.List.{slice_index_or}
use Rattle.gx_machine.specs.declared.limits.TheConstants.{SESSIONS}
use Rattle.gx_machine.specs.declared.entry.Entry.{Entry}
use Rattle.gx_machine.specs.Keys.{Keys}
use Rattle.gx_machine.specs.Sets.{has, including_all, InOrder, IsSetOf}
use Rattle.gx_machine.specs.Sessions.{Session, Idle, Open, Aborting, Committing, Changes}
use Rattle.gx_machine.specs.Machine.{Machine}
use Rattle.gx_machine.specs.Invariants.{Apart, Covered, HoldsFor}
use Rattle.gx_events.specs.Slots.{Note, Slot, Free, Working, Undoing, Waiting, locks_held, slot_at, entries_of, noted_in}

-- What decides: which entries are live in the tree; the eight slots; the kept sets but the last, oldest first, and the
-- number of the oldest; whether a fault has made it fail.
pub record Engine (B : Type 0) : Type 0 where
  pub live : Entry B → Bool
  pub slots : List (Slot B)
  pub older : List (List (Entry B))
  pub oldest : ℕ
  pub failed : Bool

-- an engine over these entries, which are the committed set of this number: no session has a transaction
abbrev pub opened_engine : {B : Type 0} → Keys B → ℕ → List (Entry B) → Engine B
opened_engine k number set = record {
  live = λ e. has k e set;
  slots = replicate SESSIONS Free;
  older = [];
  oldest = number;
  failed = false;
}

-- the machine with this one set and idle sessions
abbrev pub opened_machine : {B : Type 0} → ℕ → List (Entry B) → Machine B
opened_machine number set = record { older = []; latest = set; oldest = number; sessions = replicate SESSIONS Idle; failed = false }

-- the number of the last committed set
abbrev pub last_number : {B : Type 0} → Engine B → ℕ
last_number engine = engine.oldest + length engine.older

-- The last committed set: an entry that some transaction has written is in it if it was live before, any other if it is
-- live.
abbrev pub stood : {B : Type 0} → Keys B → Engine B → Entry B → Bool
stood k engine e = unwrap_or (noted_in k e engine.slots) (engine.live e)

-- the kept set of this number
abbrev pub kept : {B : Type 0} → Keys B → ℕ → Engine B → Entry B → Bool
kept k number engine e =
    if nat_lt number (last_number engine) then has k e (slice_index_or engine.older (number - engine.oldest) [])
    else stood k engine e

-- these entries, in order and each once
abbrev pub gathered : {B : Type 0} → Keys B → List (Entry B) → List (Entry B)
gathered k entries = including_all k entries []

-- what a transaction has added, of what it noted that which is live, and taken away, that which isn't
abbrev pub changes_of : {B : Type 0} → Keys B → (Entry B → Bool) → List (Note B) → Changes B
changes_of k live notes = record {
  added = gathered k (filter live (entries_of notes));
  taken = gathered k (filter (λ e. not (live e)) (entries_of notes));
}

-- a slot as a session of the machine: what is undone is no change any more
abbrev pub session_of : {B : Type 0} → Keys B → (Entry B → Bool) → Slot B → Session B
session_of k live Free = Idle
session_of k live (Working locks notes call) = Open locks (changes_of k live notes) call
session_of k live (Undoing locks notes) = Aborting locks
session_of k live (Waiting number) = Committing number

abbrev pub sessions_of : {B : Type 0} → Keys B → (Entry B → Bool) → List (Slot B) → List (Session B)
sessions_of k live slots = map (session_of k live) slots

-- An engine is seen as a machine: the slots as its sessions, the committed set as its last set, and the rest alike.
pub record SeenAs {B : Type 0} (k : Keys B) (engine : Engine B) (m : Machine B) : Type 0 where
  pub sessions : m.sessions ≡ sessions_of k engine.live engine.slots
  pub latest : IsSetOf k (stood k engine) m.latest
  pub older : m.older ≡ engine.older
  pub oldest : m.oldest ≡ engine.oldest
  pub failed : m.failed ≡ engine.failed

-- a transaction claims what it noted, and holds what its open call needs
abbrev pub HoldsItsLocks : {B : Type 0} → Keys B → Slot B → Type 0
HoldsItsLocks k Free = Unit {0}
HoldsItsLocks k (Working locks notes None) = Covered k (entries_of notes) locks.claims
HoldsItsLocks k (Working locks notes (Some call)) = Covered k (entries_of notes) locks.claims × HoldsFor k call locks
HoldsItsLocks k (Undoing locks notes) = Covered k (entries_of notes) locks.claims
HoldsItsLocks k (Waiting number) = Unit {0}

-- What every engine keeps: there are eight slots; each holds its locks; what one claims, another neither claims nor
-- watches; kept sets are in order. Nothing of a tree, its marks or a log is in it.
pub record IsSound {B : Type 0} (k : Keys B) (engine : Engine B) : Type 0 where
  pub eight : length engine.slots ≡ 8
  pub holds : (s : ℕ) → HoldsItsLocks k (slot_at s engine.slots)
  pub apart : (a b : ℕ) → a ≢ b → Apart k (locks_held (slot_at a engine.slots)) (locks_held (slot_at b engine.slots))
  pub in_order : All (InOrder k) engine.older

-- Two engines decide alike.
pub record IsSame {B : Type 0} (one other : Engine B) : Type 0 where
  pub live : (e : Entry B) → one.live e ≡ other.live e
  pub slots : one.slots ≡ other.slots
  pub older : one.older ≡ other.older
  pub oldest : one.oldest ≡ other.oldest
  pub failed : one.failed ≡ other.failed
