-- What is laid down of a first log: the bytes of each write, and a device that holds them.
use Rattle.std.specs.Prelude.{◌≡◌, ◌⊎◌, ℕ, ◌+◌, ◌*◌, ◌<◌, ◌≤◌, Bool, false, List, [], ◌∷◌, ◌++◌, length, replicate}
use Rattle.gx_disk.specs.declared.layout.TheConstants.{PAGES_AT}
use Rattle.gx_disk.specs.Sectors.{sector_of, span_of}
use Rattle.gx_record.specs.Rec.{Counters}
use Rattle.gx_record.specs.Format.{spelling}
use Rattle.gx_glog.specs.declared.turn.TheConstants.{GATES_SIZE}
use Rattle.gx_glog.specs.declared.extent.TheConstants.{BODIES_A, BODY_SECTORS, BODY_SIZE, GATES_A}
use Rattle.gx_glog.specs.declared.extent.Extent.{Extent}
use Rattle.gx_glog.specs.declared.extent.Extent.TheVariants.{A, B}

-- the sector of an open gate
abbrev pub open_gate_bytes : List ℕ
open_gate_bytes = 0xA7 ∷ replicate 511 0

-- the sectors of an extent's gates, all closed
abbrev pub closed_gates_bytes : List ℕ
closed_gates_bytes = replicate GATES_SIZE 0

-- the sector of a selector
abbrev pub selector_bytes : Extent → List ℕ
selector_bytes A = replicate 512 0
selector_bytes B = 0x5A ∷ replicate 511 0

-- The one record of a first log: its kind, no commit, no change, two pages in use, and transaction 1 to come.
abbrev pub first_record : List ℕ
first_record = 5 ∷ 0 ∷ 0 ∷ 0 ∷ 0 ∷ 0 ∷ 0 ∷ 0 ∷ 0 ∷ 0 ∷ 0 ∷ 0 ∷ 0 ∷ 0 ∷ 0 ∷ 0 ∷ 0 ∷ 0 ∷ 0 ∷ 0 ∷ 2 ∷ 0 ∷ 0 ∷ 0 ∷ 0 ∷ 0 ∷ 0 ∷ 0 ∷ 1 ∷ []

-- body 0 of a first log: the record's size, the record, and zeros
abbrev pub first_body_bytes : List ℕ
first_body_bytes = 0 ∷ 0 ∷ 0 ∷ 29 ∷ (first_record ++ replicate 32735 0)

-- A device that reads so: extent A is selected, its first gate is open and its others closed, and body 0 has the record.
pub record HasFirstLog (seen : List ℕ) : Type 0 where
  pub size : 512 * PAGES_AT ≤ length seen
  pub selector : sector_of seen 2 ≡ selector_bytes A
  pub opened : sector_of seen GATES_A ≡ open_gate_bytes
  pub closed : (s : ℕ) → GATES_A < s → s < BODIES_A → sector_of seen s ≡ replicate 512 0
  pub body : span_of seen BODIES_A BODY_SIZE ≡ first_body_bytes

-- a crash leaves the sectors that have it
abbrev pub IsFirstSettled : (ℕ → Bool) → Type 0
IsFirstSettled pending = (s : ℕ) → (s ≡ 2) ⊎ ((GATES_A ≤ s) × (s < BODIES_A + BODY_SECTORS)) → pending s ≡ false

-- the bytes of that record are its spelling
abbrev pub FirstIsSpelled : Type 0
FirstIsSpelled = spelling (Counters 0 0 2 1) ≡ first_record
