-- What a crash may leave at each moment of an opening.
use Rattle.std.specs.Prelude.{◌⊎◌, ℕ, Bool, List}
use Rattle.gx_disk.specs.Device.{Device, MayLeave}
use Rattle.gx_disk.specs.Moments.{Leaves}
use Rattle.gx_durable.specs.Area.{area_of}
use Rattle.gx_durable.specs.Fitting.{AreGood}
use Rattle.gx_durable.specs.Standing.{Stands}
use Rattle.gx_format.specs.Fresh.{HasMagic}
use Rattle.gx_found_log.specs.Found.{HasUndamaged}
use Rattle.gx_glog.specs.declared.parameters.Parameters.{Parameters}
use Rattle.gx_machine.specs.Keys.{Members}
use Rattle.gx_node.specs.Reading.{Format}
use Rattle.gx_opening.specs.Formatted.{Says}
use Rattle.gx_opening.specs.Laid.{IsKeptOrFound}
use Rattle.gx_opening.specs.Standing.{known_for, reading}
use Rattle.gx_recovery.specs.Damage.{records_of}
use Rattle.gx_recovery.specs.Renewal.{found}

module _ {B : Type 0} (shape : Members B) (is_key : B → Bool) (said : List ℕ → B) (f : Format B) where
  -- The log of what is seen is undamaged, and an image stands for the set that it keeps, under its number.
  pub record StandsForFound (p : Parameters) (seen image : List ℕ) : Type 0 where
    pub log : HasUndamaged (known_for shape is_key said f p) (reading shape is_key said f) seen
    pub stands : Stands (known_for shape is_key said f p) (reading shape is_key said f) (found (area_of (reading shape is_key said f) p.pages seen) (records_of log.bodies)) image

  -- an image that a crash could leave at the start; or one with the log that is seen, and after it the same pages; or one that stands for
  -- the set that this log keeps
  abbrev pub IsKept : Parameters → Device → List ℕ → Type 0
  IsKept p d image = IsKeptOrFound (known_for shape is_key said f p) (reading shape is_key said f) d image ⊎ StandsForFound p d.seen image

  -- at each moment, by what the device as it reads is formatted for
  abbrev pub OpensSafely : Device → Device → Type 0
  OpensSafely d e = (p : Parameters) → Says d.seen p → Leaves (IsKept p d) d e

  -- the pages after the log of what is seen are good for it, and can be read
  abbrev pub ArePagesGood : Parameters → List ℕ → Type 0
  ArePagesGood p seen = (log : HasUndamaged (known_for shape is_key said f p) (reading shape is_key said f) seen)
      → AreGood (known_for shape is_key said f p) (reading shape is_key said f) (area_of (reading shape is_key said f) p.pages seen) (records_of log.bodies)

  -- Where they are, on a device with the magic, at each moment an image could be left at the start, or stands for the set that the log keeps.
  abbrev pub KeepsItsSet : Device → Device → Type 0
  KeepsItsSet d e = (p : Parameters) → HasMagic d.seen → Says d.seen p → ArePagesGood p d.seen
      → Leaves (λ image. MayLeave d image ⊎ StandsForFound p d.seen image) d e
