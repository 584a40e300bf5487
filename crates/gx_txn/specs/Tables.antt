-- What each session holds, and what asking for more of it gives.
use Rattle.std.specs.Prelude.{ℕ, ◌≡◌, ◌≤◌, ◌-◌, Bool, length, Option, Result, Ok, Err, IsOk, List, [], slice_set, sum_by}
use Rattle.std.specs.List.{slice_index_or, list_any}
use Rattle.gx_geom.specs.declared.refusal.Refusal.{Refusal}
use Rattle.gx_machine.specs.declared.limits.TheConstants.{MAX_CLAIMS}
use Rattle.gx_machine.specs.declared.entry.Entry.{Entry}
use Rattle.gx_machine.specs.declared.call.Call.{Call}
use Rattle.gx_machine.specs.Keys.{Keys}
use Rattle.gx_machine.specs.Sets.{has, InOrder}
use Rattle.gx_machine.specs.Sessions.{Locks, no_locks, conflicts, lock_for}
use Rattle.gx_machine.specs.Invariants.{Covered}
use Rattle.gx_machine.specs.Least.{least_barring}
use Rattle.gx_txn.specs.declared.note.Note.{Note}
use Rattle.gx_txn.specs.Notes.{entries_of}

-- what a session holds: its locks, and the notes of what its transaction wrote
pub record Held (B : Type 0) : Type 0 where
  pub locks : Locks B
  pub notes : List (Note B)

-- nothing, as with no transaction
abbrev pub nothing_held : {B : Type 0} → Held B
nothing_held = record { locks = no_locks; notes = [] }

-- what is held with other locks, and with other notes
abbrev pub with_locks : {B : Type 0} → Locks B → Held B → Held B
with_locks locks h = record h { locks = locks }

abbrev pub with_notes : {B : Type 0} → List (Note B) → Held B → Held B
with_notes notes h = record h { notes = notes }

-- a claim on the entry is held
abbrev pub claims : {B : Type 0} → Keys B → Entry B → Held B → Bool
claims k e h = has k e h.locks.claims

-- what is held keeps its shape: claims in order, notes in order, of claimed entries alone, and no more claims than places
pub record IsKept {B : Type 0} (k : Keys B) (h : Held B) : Type 0 where
  pub claims_in_order : InOrder k h.locks.claims
  pub notes_in_order : InOrder k (entries_of h.notes)
  pub noted_is_claimed : Covered k (entries_of h.notes) h.locks.claims
  pub few : length h.locks.claims ≤ MAX_CLAIMS

-- what the session of this number holds
abbrev pub held_by : {B : Type 0} → ℕ → List (Held B) → Held B
held_by s table = slice_index_or table (s - 1) nothing_held

-- the table with that changed
abbrev pub with_held : {B : Type 0} → ℕ → Held B → List (Held B) → List (Held B)
with_held s h table = slice_set table (s - 1) h

-- the least session but s whose locks conflict with a call of s, where those given are numbered from n
abbrev pub least_in : {B : Type 0} → Keys B → Call B → ℕ → ℕ → List (Held B) → Option ℕ
least_in k call s n table = least_barring (λ h. conflicts k call h.locks) s n table

-- the claims held in all
abbrev pub claims_in : {B : Type 0} → List (Held B) → ℕ
claims_in table = sum_by (λ h. length h.locks.claims) table

-- the locks of s with the one that its call takes, or the refusal
abbrev pub locks_for : {B : Type 0} → Keys B → Call B → ℕ → List (Held B) → Result (Locks B) Refusal
locks_for k call s table = lock_for k call (least_in k call s 1 table) (claims_in table) (held_by s table).locks

-- some session claims the entry
abbrev pub claimed_in : {B : Type 0} → Keys B → Entry B → List (Held B) → Bool
claimed_in k e table = list_any (claims k e) table

-- what was asked for is held, and nothing else changes; or the call is refused, and nothing does
abbrev pub Takes : {B : Type 0} → Result (Locks B) Refusal → Held B → Result (Unit {0}) Refusal → Held B → Type 0
Takes (Ok locks) old answer new = IsOk answer × (new ≡ with_locks locks old)
Takes (Err why) old answer new = (answer ≡ Err why) × (new ≡ old)

-- the same in the table, for the session of this number
abbrev pub TakesIn : {B : Type 0} → Result (Locks B) Refusal → ℕ → List (Held B) → Result (Unit {0}) Refusal → List (Held B) → Type 0
TakesIn (Ok locks) s old answer new = IsOk answer × (new ≡ with_held s (with_locks locks (held_by s old)) old)
TakesIn (Err why) s old answer new = (answer ≡ Err why) × (new ≡ old)
