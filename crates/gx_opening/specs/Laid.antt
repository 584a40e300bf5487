-- The log of a device, found and laid over its pages.
use Rattle.std.specs.Prelude.{◌≡◌, ◌⊎◌, ◌<◌, ℕ, true, List, Result, Ok, Err}
use Rattle.gx_geom.specs.declared.refusal.Refusal.{Refusal}
use Rattle.gx_geom.specs.declared.refusal.Refusal.TheVariants.{Damaged}
use Rattle.gx_disk.specs.Device.{Device, IsSettled, MayLeave}
use Rattle.gx_disk.specs.Moments.{Leaves}
use Rattle.gx_durable.specs.Area.{area_of}
use Rattle.gx_durable.specs.Fitting.{AreGood}
use Rattle.gx_durable.specs.GoingOn.{opened}
use Rattle.gx_durable.specs.Opening.{found_glog}
use Rattle.gx_durable.specs.Spelled.{Reading}
use Rattle.gx_found_log.specs.declared.found.FoundLog.{FoundLog}
use Rattle.gx_found_log.specs.Found.{HasUndamaged, IsFound}
use Rattle.gx_glog.specs.Layout.{body_of, selected_of, size_in}
use Rattle.gx_glog.specs.Reading.{IsSize}
use Rattle.gx_recovery.specs.Damage.{records_of}
use Rattle.gx_recovery.specs.Known.{Known, IsLawful}
use Rattle.gx_recovery.specs.Life.{AllWritten}
use Rattle.gx_recovery.specs.Records.{Record}
use Rattle.gx_recovery.specs.Redo.{redone}
use Rattle.gx_recovery.specs.Renewal as renewal
use Rattle.gx_found_log.specs.Laid.{Spares}
use Rattle.gx_found_log.specs.Redone.{HasSamePages, IsUngiven}

module _ {E P : Type 0} (k : Known E P) (r : Reading E P) where
  -- The log of what is seen is undamaged; an image has the same log, and after it the same pages.
  pub record HasFoundLog (seen image : List ℕ) : Type 0 where
    pub log : HasUndamaged k r seen
    pub same : HasSamePages k r seen (records_of log.bodies) image

  -- an image that a crash could leave at the start, or one with the log that was found and after it the same pages
  abbrev pub IsKeptOrFound : Device → List ℕ → Type 0
  IsKeptOrFound d image = MayLeave d image ⊎ HasFoundLog d.seen image

  -- The log that starts after these bodies is on a device as it was on what was seen, with each page written. If the
  -- pages are good for it, what each body says its size is fits it.
  pub record StaysBehind (seen now : List ℕ) (bodies : List (List (Record E P))) : Type 0 where
    pub glog : found_glog now ≡ found_glog seen
    pub written : AllWritten (renewal.found (area_of r k.pages now) (records_of bodies))
    pub sizes : AreGood k r (area_of r k.pages now) (records_of bodies)
        → (j : ℕ) → j < opened now → IsSize (size_in (body_of now (selected_of now) j))

  -- The log was found on what was seen, and laid: each page is as the log leaves it, after which the pages are the same, and all is settled.
  pub record IsLaid (seen : List ℕ) (e : Device) (found : FoundLog E) : Type 0 where
    pub is : IsFound k r seen found
    pub settled : IsSettled e
    pub area : (p : ℕ) → area_of r k.pages e.seen p ≡ redone (area_of r k.pages seen) (records_of is.log.bodies) p
    pub same : HasSamePages k r seen (records_of is.log.bodies) e.seen
    pub stays : StaysBehind seen e.seen is.log.bodies

  -- the log is found and laid; or it is damaged, and the device reads as before
  abbrev pub LogLaid : List ℕ → Device → Result (FoundLog E) Refusal → Type 0
  LogLaid seen e (Ok found) = IsLaid seen e found
  LogLaid seen e (Err why) = why ≡ Damaged → (e.seen ≡ seen) × (HasUndamaged k r seen → ⊥)

  -- a sector is no part of a page that the log of what is seen gives; if that log is damaged, none is
  abbrev pub IsSpared : List ℕ → ℕ → Type 0
  IsSpared seen s = (log : HasUndamaged k r seen) → IsUngiven (records_of log.bodies) s

  -- What finding and laying the log leaves of a synced device, even if it is refused.
  pub record LaysLog (d e : Device) (result : Result (FoundLog E) Refusal) : Type 0 where
    pub leaves : Leaves (IsKeptOrFound d) d e
    pub spares : Spares (IsSpared d.seen) d e
    pub log : LogLaid d.seen e result

  -- so of a log that is found there
  abbrev pub LaysFound : FoundLog E → Device → Device → Result (FoundLog E) Refusal → Type 0
  LaysFound found d e result = IsLawful k → d.honest ≡ true → IsSettled d → IsFound k r d.seen found → LaysLog d e result

  abbrev pub LaysLogOf : Device → Device → Result (FoundLog E) Refusal → Type 0
  LaysLogOf d e result = IsLawful k → d.honest ≡ true → IsSettled d → LaysLog d e result
