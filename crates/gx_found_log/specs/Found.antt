-- The log of an image, read back.
use Rattle.std.specs.Prelude.{◌≡◌, ℕ, zero, suc, ◌+◌, ◌<◌, ◌≤◌, Bool, true, false, List, [], Result, Ok, Err}
use Rattle.gx_geom.specs.declared.refusal.Refusal.{Refusal}
use Rattle.gx_geom.specs.declared.refusal.Refusal.TheVariants.{Device, Damaged, Memory}
use Rattle.gx_disk.specs.Device as disk
use Rattle.gx_glog.specs.declared.extent.TheConstants.{PLACES}
use Rattle.gx_glog.specs.declared.extent.Extent.{Extent}
use Rattle.gx_glog.specs.Layout.{selected_of, is_open, body_of, size_in, open_run}
use Rattle.gx_glog.specs.Reading.{IsSize}
use Rattle.gx_glog.specs.Cuts.{bodies_in}
use Rattle.gx_recovery.specs.Known.{Known}
use Rattle.gx_recovery.specs.Records.{Record}
use Rattle.gx_recovery.specs.Analysis.{unread}
use Rattle.gx_recovery.specs.Damage.{records_of, is_undamaged}
use Rattle.gx_durable.specs.Spelled.{Reading}
use Rattle.gx_durable.specs.Bodies.{AreBodies}
use Rattle.gx_recovery.specs.Telling.{IsKept}
use Rattle.gx_found_log.specs.declared.found.FoundLog.{FoundLog}
use Rattle.gx_found_log.specs.declared.gathered.Gathered.{Gathered}
use Rattle.gx_found_log.specs.declared.part.Part.{Part}
use Rattle.gx_found_log.specs.declared.part.Part.TheVariants.{Start, Later}
use Rattle.gx_found_log.specs.Given.{IsGiven}
use Rattle.gx_found_log.specs.Told.{IsGathered}

-- The first n bodies of an extent: what each says its size is fits it, and their bytes are the records of an undamaged log.
pub record AreUndamaged {E P : Type 0} (k : Known E P) (r : Reading E P) (seen : List ℕ) (extent : Extent) (n : ℕ) : Type 0 where
  pub sizes : (j : ℕ) → j < n → IsSize (size_in (body_of seen extent j))
  pub bodies : List (List (Record E P))
  pub told : AreBodies r (bodies_in seen extent n) bodies
  pub undamaged : is_undamaged k bodies ≡ true

-- how many gates in a row are open from the first of the selected extent on
abbrev pub opened : List ℕ → ℕ
opened image = open_run image (selected_of image) 0 PLACES

-- The log of an image is undamaged: of the bodies behind its leading open gates.
abbrev pub HasUndamaged : {E P : Type 0} → Known E P → Reading E P → List ℕ → Type 0
HasUndamaged k r image = AreUndamaged k r image (selected_of image) (opened image)

-- the part that a body of place i starts at
abbrev pub part_at : ℕ → Part
part_at zero = Start
part_at (suc i) = Later

-- The first n bodies of an extent are read: their gates are open, they are whole, and what is gathered is of their records, an
-- undamaged log where there are any.
pub record ReadSoFar {E P : Type 0} (k : Known E P) (r : Reading E P) (seen : List ℕ) (extent : Extent) (n : ℕ) (s : Gathered E) : Type 0 where
  pub gates : (j : ℕ) → j < n → is_open seen extent j ≡ true
  pub sizes : (j : ℕ) → j < n → IsSize (size_in (body_of seen extent j))
  pub bodies : List (List (Record E P))
  pub told : AreBodies r (bodies_in seen extent n) bodies
  pub undamaged : 1 ≤ n → is_undamaged k bodies ≡ true
  pub gathered : IsGathered k r (records_of bodies) s

-- what is gathered is of a device of as many pages as are known, and of nodes that may have as many entries
abbrev pub HasLimits : {E P : Type 0} → Known E P → Gathered E → Type 0
HasLimits k s = (k.pages ≡ s.analysis.pages) × (k.most ≡ s.scratch.0)

-- nothing is gathered as yet
pub record IsUnread {E : Type 0} (s : Gathered E) : Type 0 where
  pub told : s.analysis.told ≡ unread
  pub closed : s.analysis.closed ≡ []
  pub given : s.given ≡ []

-- What a place of an extent comes to, of which all before it are read: its gate is closed, and nothing changes; or its body is read
-- too; or no log that goes so far is undamaged.
abbrev pub PlaceRead : {E P : Type 0} → Known E P → Reading E P → List ℕ → Extent → ℕ → Gathered E → Result Bool Refusal → Gathered E → Type 0
PlaceRead k r seen extent i old (Ok true) new = (is_open seen extent i ≡ true) × (ReadSoFar k r seen extent i old → ReadSoFar k r seen extent (i + 1) new)
PlaceRead k r seen extent i old (Ok false) new = (is_open seen extent i ≡ false) × (new ≡ old)
PlaceRead k r seen extent i old (Err Damaged) new =
    (is_open seen extent i ≡ true) × (ReadSoFar k r seen extent i old → (n : ℕ) → i < n → AreUndamaged k r seen extent n → ⊥)
PlaceRead k r seen extent i old (Err refusal) new = Unit {0}

-- The bodies behind an extent's leading open gates are read; there is one at least, and behind the last the gate is closed.
pub record ReadWhole {E P : Type 0} (k : Known E P) (r : Reading E P) (seen : List ℕ) (extent : Extent) (n : ℕ) (s : Gathered E) : Type 0 where
  pub some : 1 ≤ n
  pub few : n ≤ PLACES
  pub closed : n < PLACES → is_open seen extent n ≡ false
  pub read : ReadSoFar k r seen extent n s

abbrev pub ExtentRead : {E P : Type 0} → Known E P → Reading E P → List ℕ → Extent → Gathered E → Result ℕ Refusal → Gathered E → Type 0
ExtentRead k r seen extent old (Ok n) new = ReadSoFar k r seen extent 0 old → ReadWhole k r seen extent n new
ExtentRead k r seen extent old (Err Damaged) new = ReadSoFar k r seen extent 0 old → AreUndamaged k r seen extent (open_run seen extent 0 PLACES) → ⊥
ExtentRead k r seen extent old (Err refusal) new = Unit {0}

-- The log of an image is found: it is undamaged, what is kept is what its records say, and of each page what it gives.
pub record IsFound {E P : Type 0} (k : Known E P) (r : Reading E P) (seen : List ℕ) (found : FoundLog E) : Type 0 where
  pub extent : found.extent ≡ selected_of seen
  pub bodies : found.bodies ≡ opened seen
  pub log : HasUndamaged k r seen
  pub kept : IsKept k (records_of log.bodies) found.analysis
  pub given : IsGiven r found.given (records_of log.bodies)

-- it is found; or it is damaged
abbrev pub LogRead : {E P : Type 0} → Known E P → Reading E P → List ℕ → Result (FoundLog E) Refusal → Type 0
LogRead k r seen (Ok found) = IsFound k r seen found
LogRead k r seen (Err Damaged) = HasUndamaged k r seen → ⊥
LogRead k r seen (Err refusal) = Unit {0}

-- how many faults of the device a reading's result means
abbrev pub FaultsTold : {T : Type 0} → (before now : ℕ) → Result T Refusal → Type 0
FaultsTold before now (Ok x) = now ≡ before
FaultsTold before now (Err Device) = now ≡ before + 1
FaultsTold before now (Err Damaged) = now ≡ before
FaultsTold before now (Err Memory) = now ≡ before
FaultsTold before now (Err refusal) = ⊥

-- A reading makes no write and no sync. It is refused by the device's fault, because of damage, or because memory is
-- refused.
pub record ReadsAlone {T : Type 0} (old new : disk.Device) (result : Result T Refusal) : Type 0 where
  pub sectors : new.sectors ≡ old.sectors
  pub honest : new.honest ≡ old.honest
  pub calls : new.calls ≡ old.calls
  pub faults : FaultsTold old.faults new.faults result
