-- The log that a checkpoint writes, or an opening: the numbers, and what open transactions have touched.
use Rattle.std.specs.Prelude.{ℕ, List, [], ◌∷◌}
use Rattle.gx_recovery.specs.Known.{Known}
use Rattle.gx_recovery.specs.Records.{Record, Counters, Note, Touch}
use Rattle.gx_recovery.specs.Analysis.{Analysis, analysis}
use Rattle.gx_recovery.specs.Redo.{redone}
use Rattle.gx_recovery.specs.Logged.{Logged}

-- a note of each touch, in their order
abbrev pub notes_of : {E P : Type 0} → List (Touch E) → List (Record E P)
notes_of [] = []
notes_of (x ∷ xs) = Note x.transaction x.entry x.before x.leaf ∷ notes_of xs

abbrev pub head_of : {E P : Type 0} → Analysis E → List (Record E P)
head_of a = Counters a.number a.counter a.used a.next ∷ notes_of a.touched

-- the log that replaces this one, with this as the next transaction's number: a running index has given numbers to
-- transactions that have logged nothing yet
abbrev pub renewed : {E P : Type 0} → Known E P → ℕ → List (Record E P) → List (Record E P)
renewed k next log = head_of (record (analysis k log) { next = next })

-- a log renewed over its own pages
abbrev pub renewed_over : {E P : Type 0} → Known E P → ℕ → (ℕ → P) → List (Record E P) → Logged E P
renewed_over k next area log = record { area = redone area log; gated = renewed k next log; flight = []; filling = [] }

-- a log that is found over a page area, before anything is done to it
abbrev pub found : {E P : Type 0} → (ℕ → P) → List (Record E P) → Logged E P
found area log = record { area = area; gated = log; flight = []; filling = [] }
