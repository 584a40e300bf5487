-- What an engine keeps of each session.
use Rattle.std.specs.Prelude.{ℕ, ◌≡◌, ◌-◌, Bool, true, false, if◌then◌else◌, Option, None, Some, List, [], ◌∷◌, map, slice_set}
use Rattle.std.specs.List.{slice_index_or}
use Rattle.std.specs.Option.{option_or}
use Rattle.gx_machine.specs.declared.entry.Entry.{Entry}
use Rattle.gx_machine.specs.declared.call.Call.{Call}
use Rattle.gx_machine.specs.Keys.{Keys, same_entry}
use Rattle.gx_machine.specs.Sessions.{Locks, no_locks}
use Rattle.gx_machine.specs.Machine.{is_session}

-- an entry that a transaction wrote, and whether it was live before the first of these writes; one that was absent and
-- one that was there with its mark are alike
pub record Note (B : Type 0) : Type 0 where
  pub entry : Entry B
  pub was_live : Bool

-- A session has no transaction; or has one, perhaps with a call open; or is undoing one; or waits for its commit.
pub data Slot (B : Type 0) : Type 0 where
  Free : Slot B
  Working : (locks : Locks B) (notes : List (Note B)) (call : Option (Call B)) → Slot B
  Undoing : (locks : Locks B) (notes : List (Note B)) → Slot B
  Waiting : (number : ℕ) → Slot B

-- the locks that are held
abbrev pub locks_held : {B : Type 0} → Slot B → Locks B
locks_held Free = no_locks
locks_held (Working locks notes call) = locks
locks_held (Undoing locks notes) = locks
locks_held (Waiting number) = no_locks

-- the notes that are kept
abbrev pub notes_kept : {B : Type 0} → Slot B → List (Note B)
notes_kept Free = []
notes_kept (Working locks notes call) = notes
notes_kept (Undoing locks notes) = notes
notes_kept (Waiting number) = []

-- a slot by its session's number; `Free` for a number that no session has
abbrev pub slot_at : {B : Type 0} → ℕ → List (Slot B) → Slot B
slot_at s slots = if is_session s then slice_index_or slots (s - 1) Free else Free

-- the slots with this one changed
abbrev pub with_slot : {B : Type 0} → ℕ → Slot B → List (Slot B) → List (Slot B)
with_slot s slot slots = slice_set slots (s - 1) slot

-- the entries that are noted
abbrev pub entries_of : {B : Type 0} → List (Note B) → List (Entry B)
entries_of notes = map (λ n. n.entry) notes

-- whether an entry was live before, if it is noted: the first note of it says
abbrev pub noted : {B : Type 0} → Keys B → Entry B → List (Note B) → Option Bool
noted k e [] = None
noted k e (n ∷ notes) = if same_entry k e n.entry then Some n.was_live else noted k e notes

-- the same in any slot
abbrev pub noted_in : {B : Type 0} → Keys B → Entry B → List (Slot B) → Option Bool
noted_in k e [] = None
noted_in k e (slot ∷ slots) = option_or (noted k e (notes_kept slot)) (noted_in k e slots)

-- Notes with one write more: its entry is noted with what it was before, unless it is noted already, and no other
-- entry's note changes.
abbrev pub WithNote : {B : Type 0} → Keys B → Entry B → Bool → List (Note B) → List (Note B) → Type 0
WithNote {B} k e was_live old new =
    (x : Entry B) → noted k x new ≡ option_or (noted k x old) (if same_entry k x e then Some was_live else None)

-- the call of this slot was asked and isn't answered
abbrev pub is_unanswered : {B : Type 0} → Slot B → Bool
is_unanswered Free = false
is_unanswered (Working locks notes None) = false
is_unanswered (Working locks notes (Some call)) = true
is_unanswered (Undoing locks notes) = true
is_unanswered (Waiting number) = true
