-- What happens to an index.
use Rattle.std.specs.Prelude.{ℕ, suc, ◌≡◌, Bool, true, ◌==◌, if◌then◌else◌, None, List, [], ◌∷◌}
use Rattle.gx_machine.specs.declared.entry.Entry.{Entry}
use Rattle.gx_machine.specs.declared.call.Call.{Call}
use Rattle.gx_machine.specs.declared.call.Call.TheVariants.{Begin, Insert, Delete, Search, Commit, Abort}
use Rattle.gx_machine.specs.Sessions.{no_locks}
use Rattle.gx_machine.specs.Machine.{Machine}
use Rattle.gx_node.specs.Trees.{Tree}
use Rattle.gx_node.specs.Looks.{from_root}
use Rattle.gx_events.specs.Slots.{Slot, Working, with_slot}
use Rattle.gx_events.specs.Engines.{SeenAs}
use Rattle.gx_events.specs.Happenings.{Happening, IsHappening, step_of}
use Rattle.gx_events.specs.Runs.{RunsAs}
use Rattle.gx_recovery.specs.Records.{Said, Record, Write}
use Rattle.gx_recovery.specs.Coming.{MayCome}
use Rattle.gx_recovery.specs.Logged.{all_records, appended}
use Rattle.gx_index_laws.specs.Classes.{Class, Page, known_of}
use Rattle.gx_index_laws.specs.States.{State, Work, Rests, Looks, engine_of}
use Rattle.gx_index_laws.specs.Whole.{IsWhole}

-- From old, this leads to new: it is the engine's event, a step of any machine that the old one is seen as, and what every
-- index keeps is kept.
pub record Happens {B : Type 0} (c : Class B) (old : State B) (event : Happening B) (new : State B) : Type 0 where
  pub is_event : IsHappening c.keys (engine_of c old) event (engine_of c new)
  pub steps : (m : Machine B) → SeenAs c.keys (engine_of c old) m → RunsAs c.keys m (step_of event ∷ []) (engine_of c new)
  pub whole : IsWhole c new

-- A record may come after all of an index's, and with it this happens.
pub record Comes {B : Type 0} (c : Class B) (old : State B) (r : Record (Entry B) (Page B)) (event : Happening B) (new : State B) : Type 0 where
  pub may_come : MayCome (known_of c) old.log.area (all_records old.log) r
  pub happens : Happens c old event new

-- what a session has, by its number, with one session's changed
abbrev pub changed_at : {X : Type 0} → ℕ → X → (ℕ → X) → ℕ → X
changed_at s x by a = if a == s then x else by a

-- the state with a record more
abbrev pub with_record : {B : Type 0} → Record (Entry B) (Page B) → State B → State B
with_record r s = record s { log = appended r s.log }

-- a session has other work; or another slot and work, and nothing is restored
abbrev pub with_work : {B : Type 0} → ℕ → Work B → State B → State B
with_work a work s = record s { work = changed_at a work s.work }

abbrev pub slotted : {B : Type 0} → ℕ → Slot B → Work B → State B → State B
slotted a slot work s = record s { slots = with_slot a slot s.slots; work = changed_at a work s.work; restored = changed_at a [] s.restored }

-- one entry more is restored by a session's abort, and its work is anew
abbrev pub with_restored : {B : Type 0} → ℕ → Entry B → State B → State B
with_restored a e s = record s { work = changed_at a Rests s.work; restored = changed_at a (e ∷ s.restored a) s.restored }

-- the record of a write by a session
abbrev pub write_of : {B : Type 0} → State B → ℕ → Entry B → Bool → Bool → ℕ → Said (Page B) → Record (Entry B) (Page B)
write_of s a e before after leaf said = Write (s.transaction a) e before after leaf said

-- what a call that opens begins with: a look from the root, or nothing of the tree
abbrev pub first_work : {B : Type 0} → Tree B → Call B → Work B
first_work t Begin = Rests
first_work t (Insert e) = Looks (from_root t ∷ []) []
first_work t (Delete e) = Looks (from_root t ∷ []) []
first_work t (Search query) = Looks (from_root t ∷ []) []
first_work t Commit = Rests
first_work t Abort = Rests

-- a session begins a transaction, of the next number
abbrev pub with_transaction : {B : Type 0} → ℕ → State B → State B
with_transaction a s = record (slotted a (Working no_locks [] None) Rests s) { transaction = changed_at a s.next s.transaction; next = suc s.next }

-- a fault has made the index fail
abbrev pub failed_state : {B : Type 0} → State B → State B
failed_state s = record s { failed = true }

-- from old, these events lead to new, one after another
abbrev pub AreHappening : {B : Type 0} → Class B → State B → List (Happening B) → State B → Type 0
AreHappening c old [] new = new ≡ old
AreHappening {B} c old (event ∷ events) new = (middle : State B) × Happens c old event middle × AreHappening c middle events new
