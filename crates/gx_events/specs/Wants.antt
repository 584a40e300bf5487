-- What an open call wants of the tree's pairs, and what a look that has ended has found.
use Rattle.std.specs.Prelude.{ℕ, ◌≡◌, Bool, true, false, ◌&&◌, None, Some, List}
use Rattle.std.specs.List.{list_any}
use Rattle.gx_machine.specs.declared.entry.Entry.{Entry}
use Rattle.gx_machine.specs.declared.query.Query.{Query}
use Rattle.gx_machine.specs.declared.call.Call.{Call}
use Rattle.gx_machine.specs.declared.call.Call.TheVariants.{Begin, Insert, Delete, Search, Commit, Abort}
use Rattle.gx_machine.specs.Keys.{Keys, same_entry, matches}
use Rattle.gx_machine.specs.Sets.{has}
use Rattle.gx_machine.specs.Sessions.{write_conflicts}
use Rattle.gx_events.specs.Slots.{Slot, Free, Working, Undoing, Waiting, locks_held, slot_at, entries_of}
use Rattle.gx_events.specs.Engines.{Engine}

-- a pair of the tree: an entry, live or marked as deleted
pub record Pair (B : Type 0) : Type 0 where
  pub entry : Entry B
  pub live : Bool

-- a search wants live pairs that match, a write the pair of its entry, whatever its mark
abbrev pub wants : {B : Type 0} → Keys B → Call B → Pair B → Bool
wants k (Insert e) pair = same_entry k pair.entry e
wants k (Delete e) pair = same_entry k pair.entry e
wants k (Search query) pair = pair.live && matches k query pair.entry
wants k Begin pair = false
wants k Commit pair = false
wants k Abort pair = false

-- an undo wants the pairs of what was noted
abbrev pub slot_wants : {B : Type 0} → Keys B → Slot B → Pair B → Bool
slot_wants k Free pair = false
slot_wants k (Working locks notes None) pair = false
slot_wants k (Working locks notes (Some call)) pair = wants k call pair
slot_wants k (Undoing locks notes) pair = has k pair.entry (entries_of notes)
slot_wants k (Waiting number) pair = false

-- A look of a search has ended: what it found is live and matches, and what is live and matches it found.
pub record HasLooked {B : Type 0} (k : Keys B) (query : Query B) (live : Entry B → Bool) (found : List (Entry B)) : Type 0 where
  pub right : (e : Entry B) → has k e found ≡ true → (matches k query e ≡ true) × (live e ≡ true)
  pub whole : (e : Entry B) → matches k query e ≡ true → live e ≡ true → has k e found ≡ true

-- What a change of the tree does to its pairs: splits and widenings move them; a pair is added, live; the mark of an
-- entry's pair is set; marked pairs are swept, except for those of spared entries.
pub data Change (B : Type 0) : Type 0 where
  Moves : Change B
  Adds : (e : Entry B) → Change B
  Marks : (e : Entry B) → Change B
  Sweeps : (spared : Entry B → Bool) → Change B

-- some session claims the entry
abbrev pub is_claimed : {B : Type 0} → Keys B → Entry B → List (Slot B) → Bool
is_claimed k e slots = list_any (λ slot. has k e (locks_held slot).claims) slots

-- a change of session s that only locks decide: it adds and marks what s claims, and spares what any session claims
abbrev pub ToldByLocks : {B : Type 0} → Keys B → ℕ → List (Slot B) → Change B → Type 0
ToldByLocks k s slots Moves = Unit {0}
ToldByLocks k s slots (Adds e) = has k e (locks_held (slot_at s slots)).claims ≡ true
ToldByLocks k s slots (Marks e) = has k e (locks_held (slot_at s slots)).claims ≡ true
ToldByLocks {B} k s slots (Sweeps spared) = (e : Entry B) → is_claimed k e slots ≡ true → spared e ≡ true

-- the change neither adds, marks nor sweeps a wanted pair
abbrev pub LeavesAlone : {B : Type 0} → (Pair B → Bool) → Change B → Type 0
LeavesAlone test Moves = Unit {0}
LeavesAlone test (Adds e) = test (record { entry = e; live = true }) ≡ false
LeavesAlone test (Marks e) = (live : Bool) → test (record { entry = e; live = live }) ≡ false
LeavesAlone {B} test (Sweeps spared) = (e : Entry B) → test (record { entry = e; live = false }) ≡ true → spared e ≡ true

-- a sweep belongs to no session: it may be one's own
abbrev pub is_sweep : {B : Type 0} → Change B → Bool
is_sweep Moves = false
is_sweep (Adds e) = false
is_sweep (Marks e) = false
is_sweep (Sweeps spared) = true

-- What another's event leaves a session: its slot, and whether each entry is live that its locks bar.
pub record LeavesSession {B : Type 0} (k : Keys B) (s : ℕ) (old new : Engine B) : Type 0 where
  pub slot : slot_at s new.slots ≡ slot_at s old.slots
  pub live : (e : Entry B) → write_conflicts k e (locks_held (slot_at s old.slots)) ≡ true → new.live e ≡ old.live e
