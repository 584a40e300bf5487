-- What becomes of the file that a command opens.
use Rattle.std.specs.Prelude.{ℕ, ◌≡◌, ◌≤◌, ◌+◌, ◌-◌, ◌^◌, min, Bool, true, false, List, Some, Result, Ok, Err}
use Rattle.gx_disk.specs.declared.device.DiskFault.{DiskFault}
use Rattle.gx_disk.specs.declared.file.FileDisk.{FileDisk}
use Rattle.gx_commands.specs.declared.opener.Access.{Access}
use Rattle.gx_commands.specs.declared.opener.Access.TheVariants.{Create, Write, Read}
use Rattle.gx_commands.specs.declared.opener.Opener.{Opener}
use Rattle.gx_commands.specs.declared.opener.Opening.{Opening}

-- whether a file that is opened so may be written
abbrev pub is_writable : Access → Bool
is_writable (Create sectors) = true
is_writable Write = true
is_writable Read = false

-- a file that is extended has the sectors that it was extended for
abbrev pub HasRoom : Access → ℕ → Type 0
HasRoom (Create wanted) sectors = wanted ≤ sectors
HasRoom other sectors = Unit {0}

-- how many sectors a file has that was opened, or why it wasn't
abbrev pub opened_with : Result FileDisk DiskFault → Result ℕ DiskFault
opened_with (Ok disk) = Ok (disk.sectors)
opened_with (Err fault) = Err fault

-- One file was opened, and no other: the one with this path, in this way, of which this came.
pub record Tries {F : Type 0} (path : List ℕ) (access : Access) (ended : Result ℕ DiskFault) (old new : Opener F) : Type 0 where
  pub opening : Opening
  pub noted : new.last ≡ Some opening
  pub path_is : opening.path.now ≡ path
  pub access_is : opening.access ≡ access
  pub ended_is : opening.ended ≡ ended
  pub once : new.openings ≡ min (old.openings + 1) (2 ^ 64 - 1)
