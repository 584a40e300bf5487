-- The calls that lay a migrated index down.
use Rattle.std.specs.Prelude.{◌≡◌, ◌⊎◌, ℕ, zero, suc, ◌<◌, ◌≤◌, List, [], ◌∷◌, ◌++◌, length, replicate, Result, Ok, Err}
use Rattle.gx_disk.specs.declared.layout.TheConstants.{PAGE_SECTORS}
use Rattle.gx_disk.specs.Device as disk
use Rattle.gx_durable.specs.Spelled.{Reading, AreRecords}
use Rattle.gx_format.specs.Calls.{Call, Write, Sync, HasFailed, HasRun}
use Rattle.gx_format.specs.Formatting.{clearing, naming}
use Rattle.gx_geom.specs.declared.refusal.Refusal.{Refusal}
use Rattle.gx_geom.specs.declared.refusal.Refusal.TheVariants.{Damaged, Device, Memory}
use Rattle.gx_glog.specs.declared.extent.TheConstants.{BODIES_A, BODY_ROOM, BODY_SECTORS, GATES_A, GATES_B, PLACES, SELECTOR}
use Rattle.gx_glog.specs.declared.extent.Extent.TheVariants.{A}
use Rattle.gx_glog.specs.declared.parameters.Parameters.{Parameters}
use Rattle.gx_glog.specs.declared.parameters.TheConstants.{PARAMETERS}
use Rattle.gx_glog.specs.Bodies.{IsBody}
use Rattle.gx_glog.specs.First.{closed_gates_bytes, open_gate_bytes, selector_bytes}
use Rattle.gx_glog.specs.Parameters.{parameters_bytes}
use Rattle.gx_pool.specs.Area.{bytes_of, first_of}
use Rattle.gx_recovery.specs.Analysis.{Analysis}
use Rattle.gx_recovery.specs.Records.{Record}
use Rattle.gx_recovery.specs.Renewal.{head_of}
use Rattle.gx_recovery.specs.declared.TheConstants.{TOUCHED}

-- a page is written to its place, from that among these bytes
abbrev pub page_write : List ℕ → ℕ → Call
page_write bytes page = Write (first_of page) PAGE_SECTORS (bytes_of bytes page)

-- the pages from 1 on up to a number are
abbrev pub page_writes : List ℕ → ℕ → List Call
page_writes bytes zero = []
page_writes bytes (suc n) = page_writes bytes n ++ page_write bytes (suc n) ∷ []

-- the parameters are written, and a log of one batch, which is settled before its gate opens
abbrev pub log_writes : Parameters → List ℕ → List Call
log_writes parameters body =
    Write PARAMETERS 1 (parameters_bytes parameters ++ replicate 504 0) ∷ Write SELECTOR 1 (selector_bytes A) ∷ Write GATES_A PLACES closed_gates_bytes ∷ Write GATES_B PLACES closed_gates_bytes
    ∷ Write BODIES_A BODY_SECTORS body ∷ Sync ∷ Write GATES_A 1 open_gate_bytes ∷ Sync ∷ []

-- all calls of a migration
abbrev pub migrating : Parameters → List ℕ → ℕ → List ℕ → List Call
migrating parameters bytes used body = clearing ++ (page_writes bytes used ++ (log_writes parameters body ++ naming))

-- A body has these records, in so many bytes as a batch may have.
pub record IsBodyOf {E P : Type 0} (r : Reading E P) (records : List (Record E P)) (body : List ℕ) : Type 0 where
  pub head : List ℕ
  pub some : 1 ≤ length head
  pub few : length head ≤ BODY_ROOM
  pub are : AreRecords r head records
  pub is : IsBody head body

-- why an index isn't laid down: a call failed, memory was refused, or more was touched than an undamaged log says
abbrev pub IsNotLaid : {E : Type 0} → Analysis E → Refusal → Type 0
IsNotLaid told why = (why ≡ Device) ⊎ ((why ≡ Memory) ⊎ ((why ≡ Damaged) × (TOUCHED < length told.touched)))

-- What a migration comes to, of what was read of a log. The device's own refusal alone comes after calls; and no undamaged log is refused as damaged.
abbrev pub Migrates : {E P D : Type 0} → Reading E P → (D → disk.Device) → Parameters → Analysis E → List ℕ → D → D → Result (Unit {0}) Refusal → Type 0
Migrates r state parameters told bytes old new (Ok x) = (body : List ℕ) × (IsBodyOf r (head_of told) body × HasRun state (migrating parameters bytes told.used body) old new)
Migrates r state parameters told bytes old new (Err Device) = (body : List ℕ) × (IsBodyOf r (head_of told) body × HasFailed state (migrating parameters bytes told.used body) old new)
Migrates r state parameters told bytes old new (Err Memory) = new ≡ old
Migrates r state parameters told bytes old new (Err Damaged) = (TOUCHED < length told.touched) × (new ≡ old)
Migrates r state parameters told bytes old new (Err refusal) = ⊥
