-- What a log's redo leaves of its device, said of the theory of logs.
use Rattle.std.specs.Prelude.{◌≡◌, ◌≢◌, ℕ, ◌<◌, true, None, List, Result, OnOk}
use Rattle.gx_disk.specs.declared.layout.TheConstants.{PAGE_SECTORS}
use Rattle.gx_disk.specs.Device.{Device, IsSettled}
use Rattle.gx_disk.specs.Moments.{Leaves}
use Rattle.gx_disk.specs.Sectors.{IsOutside}
use Rattle.gx_glog.specs.declared.extent.TheConstants.{PLACES}
use Rattle.gx_glog.specs.Layout.{selected_of, body_of, size_in, open_run}
use Rattle.gx_glog.specs.Reading.{IsSize}
use Rattle.gx_glog.specs.Cuts.{open_bodies}
use Rattle.gx_pool.specs.Area.{first_of}
use Rattle.gx_recovery.specs.Known.{Known, IsLawful}
use Rattle.gx_recovery.specs.Records.{Record}
use Rattle.gx_recovery.specs.Redo.{redone}
use Rattle.gx_recovery.specs.Given.{given}
use Rattle.gx_recovery.specs.Damage.{records_of, is_undamaged}
use Rattle.gx_recovery.specs.Life.{AllWritten}
use Rattle.gx_recovery.specs.Renewal.{found}
use Rattle.gx_durable.specs.Spelled.{Reading}
use Rattle.gx_durable.specs.Bodies.{AreBodies}
use Rattle.gx_durable.specs.Area.{area_of, HasPages}
use Rattle.gx_durable.specs.Fitting.{AreGood, HasSizes}
use Rattle.gx_durable.specs.Head.{head_in}
use Rattle.gx_durable.specs.Standing.{Stands}
use Rattle.gx_durable.specs.Opening.{UpToTurn, found_glog}
use Rattle.gx_found_log.specs.declared.found.FoundLog.{FoundLog}
use Rattle.gx_found_log.specs.Found.{IsFound}
use Rattle.gx_found_log.specs.Given.{Imaged, are_on_device, IsGiven}
use Rattle.gx_found_log.specs.Laid.{Spares}

-- Of a log that was found, each page that it gives is the device's.
abbrev pub FoundIsOnDevice : {E P : Type 0} → Known E P → Reading E P → Type 0
FoundIsOnDevice {E} {P} k r = IsLawful k → (seen : List ℕ) (log : FoundLog E) → IsFound k r seen log → are_on_device k.pages log.given ≡ true

-- A log is found on a synced device, undamaged.
pub record IsFoundOn {E P : Type 0} (k : Known E P) (r : Reading E P) (d : Device) (bodies : List (List (Record E P))) : Type 0 where
  pub settled : IsSettled d
  pub pages : HasPages k.pages d.sectors
  pub sizes : (j : ℕ) → j < open_run d.seen (selected_of d.seen) 0 PLACES → IsSize (size_in (body_of d.seen (selected_of d.seen) j))
  pub told : AreBodies r (open_bodies d.seen) bodies
  pub undamaged : is_undamaged k bodies ≡ true

-- An image says the same of itself as these bytes, and has their log, with sizes in range where theirs are, and after it the same pages.
pub record HasSamePages {E P : Type 0} (k : Known E P) (r : Reading E P) (seen : List ℕ) (log : List (Record E P)) (image : List ℕ) : Type 0 where
  pub head : head_in image ≡ head_in seen
  pub bodies : open_bodies image ≡ open_bodies seen
  pub sizes : HasSizes seen → HasSizes image
  pub pages : (p : ℕ) → redone (area_of r k.pages image) log p ≡ redone (area_of r k.pages seen) log p

-- Each page is as the log leaves it, and all is settled. So the log that starts behind its bodies has all pages written; and of a device
-- that says what is known of it, it is up to its turn where the pages are good for it and can be read.
pub record IsRedone {E P : Type 0} (k : Known E P) (r : Reading E P) (d e : Device) (bodies : List (List (Record E P))) : Type 0 where
  pub settled : IsSettled e
  pub area : (p : ℕ) → area_of r k.pages e.seen p ≡ redone (area_of r k.pages d.seen) (records_of bodies) p
  pub same : HasSamePages k r d.seen (records_of bodies) e.seen
  pub glog : found_glog e.seen ≡ found_glog d.seen
  pub written : AllWritten (found (area_of r k.pages e.seen) (records_of bodies))
  pub sizes : HasSizes e.seen
  pub turn : head_in d.seen ≡ k.head → AreGood k r (area_of r k.pages e.seen) (records_of bodies)
      → UpToTurn k r (found_glog e.seen) e.sectors e.seen e.pending bodies (found (area_of r k.pages e.seen) (records_of bodies))

-- a sector is no part of a page of which a log gives the content
abbrev pub IsUngiven : {E P : Type 0} → List (Record E P) → ℕ → Type 0
IsUngiven log s = (p : ℕ) → given p log ≢ None → IsOutside (first_of p) PAGE_SECTORS s

-- At each moment of a redo, also where a call fails, what a crash may leave has the log that was found, and after it
-- the same pages. Where these are good for it and can be read, and the device says what is known of it, it stands for
-- the set of the log that was found. Of all sectors only those of pages that the log gives are written.
pub record Redone {T R E P : Type 0} (k : Known E P) (r : Reading E P) (d e : Device) (bodies : List (List (Record E P))) (result : Result T R) : Type 0 where
  pub leaves : Leaves (HasSamePages k r d.seen (records_of bodies)) d e
  pub stands : head_in d.seen ≡ k.head → AreGood k r (area_of r k.pages d.seen) (records_of bodies)
      → Leaves (Stands k r (found (area_of r k.pages d.seen) (records_of bodies))) d e
  pub done : OnOk result (IsRedone k r d e bodies)
  pub spares : Spares (IsUngiven (records_of bodies)) d e

-- so of each log that is found there, of which what was kept is given
abbrev pub Redoes : {T R E P : Type 0} → Known E P → Reading E P → List Imaged → Device → Device → Result T R → Type 0
Redoes {T} {R} {E} {P} k r kept d e result = (bodies : List (List (Record E P))) → IsLawful k → d.honest ≡ true → IsFoundOn k r d bodies → IsGiven r kept (records_of bodies)
    → Redone k r d e bodies result
