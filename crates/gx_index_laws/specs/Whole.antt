-- What every index keeps.
use Rattle.std.specs.Prelude.{ℕ, ◌≡◌, ◌+◌, ◌<◌, ◌≤◌, Bool, true, false, not, option_map, is_some, length, []}
use Rattle.std.specs.List.{slice_index_or}
use Rattle.gx_machine.specs.declared.limits.TheConstants.{MAX_CLAIMS}
use Rattle.gx_machine.specs.declared.entry.Entry.{Entry}
use Rattle.gx_machine.specs.Sets.{IsSetOf}
use Rattle.gx_machine.specs.Machine.{Machine}
use Rattle.gx_events.specs.Slots.{Slot, Free, Working, Undoing, Waiting, notes_kept, slot_at, noted}
use Rattle.gx_events.specs.Engines.{stood, SeenAs, IsSound}
use Rattle.gx_events.specs.Asking.{claims_held}
use Rattle.gx_recovery.specs.Records.{settled, any_number}
use Rattle.gx_recovery.specs.Analysis.{analysis}
use Rattle.gx_recovery.specs.Standing.{own_before}
use Rattle.gx_recovery.specs.Damage.{is_open}
use Rattle.gx_recovery.specs.Logged.{all_records, durable, latest, kept, IsHealthy}
use Rattle.gx_index_laws.specs.Classes.{Class, known_of}
use Rattle.gx_index_laws.specs.States.{State, tree_now, engine_of}
use Rattle.gx_index_laws.specs.Working.{DoesWork, AreRestored}

-- the session has a transaction that is open in the log
abbrev pub is_busy : {B : Type 0} → Slot B → Bool
is_busy Free = false
is_busy (Working locks notes call) = true
is_busy (Undoing locks notes) = true
is_busy (Waiting number) = false

-- A session's transaction is open in the log, and below the next one; its notes are the log's first marks of it. A note
-- says whether the entry was live, a mark whether it was marked or absent.
pub record HasTransaction {B : Type 0} (c : Class B) (s : State B) (a : ℕ) : Type 0 where
  pub open_yet : is_open (s.transaction a) (all_records s.log) ≡ true
  pub below : s.transaction a < s.next
  pub notes : (e : Entry B) → noted c.keys e (notes_kept (slot_at a s.slots)) ≡ option_map not (own_before (known_of c) (s.transaction a) e (all_records s.log))

-- a session has this transaction
pub record IsHad {B : Type 0} (s : State B) (t : ℕ) : Type 0 where
  pub session : ℕ
  pub busy : is_busy (slot_at session s.slots) ≡ true
  pub has : s.transaction session ≡ t

-- Sessions and the log have the same transactions: each session has another one, and one that is open in the log and
-- has touched an entry is some session's.
pub record IsTied {B : Type 0} (c : Class B) (s : State B) : Type 0 where
  pub each : (a : ℕ) → is_busy (slot_at a s.slots) ≡ true → HasTransaction c s a
  pub own : (a b : ℕ) → is_busy (slot_at a s.slots) ≡ true → is_busy (slot_at b s.slots) ≡ true → s.transaction a ≡ s.transaction b → a ≡ b
  pub had : (t : ℕ) (e : Entry B) → settled any_number t (all_records s.log) ≡ false → is_some (own_before (known_of c) t e (all_records s.log)) ≡ true
      → IsHad s t

-- the kept sets are the log's, under the same numbers; the committed set is the last of them
pub record KeepsSets {B : Type 0} (c : Class B) (s : State B) : Type 0 where
  pub first : s.oldest ≡ durable (known_of c) s.log
  pub last : s.oldest + length s.older ≡ latest (known_of c) s.log
  pub sets : (n : ℕ) → n < length s.older → IsSetOf c.keys (kept (known_of c) s.log (s.oldest + n)) (slice_index_or s.older n [])
  pub stands : (e : Entry B) → stood c.keys (engine_of c s) e ≡ kept (known_of c) s.log (latest (known_of c) s.log) e

-- An index is whole.
pub record IsWhole {B : Type 0} (c : Class B) (s : State B) : Type 0 where
  -- the log is healthy, with 'live', 'sound' and 'placed' said by the tree
  pub healthy : IsHealthy (known_of c) s.log
  -- slots hold their locks, which keep apart; and there are so many claims in all
  pub sound : IsSound c.keys (engine_of c s)
  pub few : claims_held s.slots ≤ MAX_CLAIMS
  -- each session's work is right, and so is what aborts have restored
  pub works : (a : ℕ) → DoesWork c (tree_now c s) (slot_at a s.slots) (s.work a)
  pub restored : (a : ℕ) → AreRestored c.keys (engine_of c s).live (slot_at a s.slots) (s.restored a)
  -- sessions and the log have the same transactions, and the next one's number covers the log's
  pub tied : IsTied c s
  pub next : (analysis (known_of c) (all_records s.log)).next ≤ s.next
  -- the kept sets are the log's
  pub sets : KeepsSets c s
  -- it is seen as a machine
  pub machine : Machine B
  pub seen : SeenAs c.keys (engine_of c s) machine
