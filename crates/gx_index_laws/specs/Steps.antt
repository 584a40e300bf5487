-- The tree's steps by what the log and other sessions see of them.
use Rattle.std.specs.Prelude.{◌≡◌, true, List}
use Rattle.gx_machine.specs.declared.entry.Entry.{Entry}
use Rattle.gx_node.specs.Trees.{Pair}
use Rattle.gx_node.specs.Steps.{Step, Splits, SplitsRoot, Widens, Adds, Marks, Sweeps}
use Rattle.gx_events.specs.Slots.{Slot}
use Rattle.gx_events.specs.Wants.{is_claimed}
use Rattle.gx_index_laws.specs.Classes.{Class, entry_of}

-- a step that belongs to no transaction: a split, a widening, a sweep
abbrev pub IsPageStep : {B : Type 0} → Step B → Type 0
IsPageStep (Splits n p sides left right) = Unit {0}
IsPageStep (SplitsRoot sides left right) = Unit {0}
IsPageStep (Widens a x coming key) = Unit {0}
IsPageStep (Adds a x) = ⊥
IsPageStep (Marks a row key mark) = ⊥
IsPageStep (Sweeps a claimed) = Unit {0}

-- a sweep spares the pairs that any session claims
abbrev pub SparesClaims : {B : Type 0} → Class B → List (Slot B) → Step B → Type 0
SparesClaims c slots (Splits n p sides left right) = Unit {0}
SparesClaims c slots (SplitsRoot sides left right) = Unit {0}
SparesClaims c slots (Widens a x coming key) = Unit {0}
SparesClaims c slots (Adds a x) = Unit {0}
SparesClaims c slots (Marks a row key mark) = Unit {0}
SparesClaims {B} c slots (Sweeps a claimed) = (x : Pair B) → is_claimed c.keys (entry_of x) slots ≡ true → claimed x ≡ true

-- a step that adds a pair of this entry, or sets its mark
abbrev pub IsWriteOf : {B : Type 0} → Entry B → Step B → Type 0
IsWriteOf e (Splits n p sides left right) = ⊥
IsWriteOf e (SplitsRoot sides left right) = ⊥
IsWriteOf e (Widens a x coming key) = ⊥
IsWriteOf e (Adds a x) = entry_of x ≡ e
IsWriteOf e (Marks a row key mark) = (row ≡ e.row) × (key ≡ e.key)
IsWriteOf e (Sweeps a claimed) = ⊥
