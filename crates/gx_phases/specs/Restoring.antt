-- What an undo has restored.
use Rattle.std.specs.Prelude.{ℕ, ◌≡◌, Bool, Some, List, map, take}
use Rattle.gx_machine.specs.declared.entry.Entry.{Entry}
use Rattle.gx_machine.specs.Keys.{Keys}
use Rattle.gx_txn.specs.declared.note.Note.{Note}
use Rattle.gx_events.specs.Slots.{noted}
use Rattle.gx_phases.specs.States.{note_of}

-- of the notes, the first so many are restored: their entries are as live as the notes say
abbrev pub AreRestored : {B : Type 0} → Keys B → (Entry B → Bool) → ℕ → List (Note B) → Type 0
AreRestored {B} k live restored notes =
    (e : Entry B) (was_live : Bool) → noted k e (map note_of (take restored notes)) ≡ Some was_live → live e ≡ was_live
