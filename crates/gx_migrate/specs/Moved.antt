-- What a crash may leave of a device within a migration to it, phase by phase, and what the new device has in the end.
use Rattle.std.specs.Prelude.{ℕ, ◌+◌, ◌≤◌, Bool, List}
use Rattle.gx_disk.specs.Device as disk
use Rattle.gx_disk.specs.Moments.{Leaves}
use Rattle.gx_format.specs.Formatting.{IsOldBeside}
use Rattle.gx_format.specs.Fresh.{HasMagic, IsUnnamed}
use Rattle.gx_durable.specs.Area.{area_of}
use Rattle.gx_durable.specs.Standing.{Stands}
use Rattle.gx_found_log.specs.Found.{HasUndamaged}
use Rattle.gx_glog.specs.declared.parameters.Parameters.{Parameters}
use Rattle.gx_machine.specs.Keys.{Members}
use Rattle.gx_node.specs.Reading.{Format}
use Rattle.gx_opening.specs.Standing.{known_for, reading}
use Rattle.gx_recovery.specs.Damage.{records_of}
use Rattle.gx_recovery.specs.Renewal.{found}

-- In the first two calls each image is one of before except for sector 0; then none is an index, of any version; and from the last two calls on each is none of this
-- version, or has this.
pub record LeavesInPhases {D : Type 0} (state : D → disk.Device) (Has : List ℕ → Type 0) (old new : D) : Type 0 where
  pub cleared : D
  pub laid : D
  pub first : Leaves (IsOldBeside (state old)) (state old) (state cleared)
  pub first_calls : (state cleared).calls ≤ (state old).calls + 2
  pub middle : Leaves IsUnnamed (state cleared) (state laid)
  pub last : Leaves (λ (image : List ℕ). HasMagic image → Has image) (state laid) (state new)
  pub last_calls : (state new).calls ≤ (state laid).calls + 2

module _ {B : Type 0} (shape : Members B) (is_key : B → Bool) (said : List ℕ → B) (f : Format B) where
  -- The log of what is seen is undamaged, and an image stands for the set that it keeps, under its number.
  pub record StandsForFound (p : Parameters) (seen image : List ℕ) : Type 0 where
    pub log : HasUndamaged (known_for shape is_key said f p) (reading shape is_key said f) seen
    pub stands : Stands (known_for shape is_key said f p) (reading shape is_key said f) (found (area_of (reading shape is_key said f) p.pages seen) (records_of log.bodies)) image

  -- bytes have the magic, and stand for that set
  abbrev pub HasMoved : Parameters → List ℕ → List ℕ → Type 0
  HasMoved p seen image = HasMagic image × StandsForFound p seen image
