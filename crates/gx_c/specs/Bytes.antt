-- The bytes of a device come a piece at a time, and then make the device.
use Rattle.std.specs.Prelude.{◌≡◌, ◌⊎◌, ℕ, ◌*◌, ◌/◌, List, [], ◌++◌, length, take}
use Rattle.gx_queue_disk.specs.declared.disk.QueueDisk.{QueueDisk}
use Rattle.gx_c.specs.Stages.{IsUndone}
use Rattle.gx_c.specs.declared.held.Stage.{Stage}
use Rattle.gx_c.specs.declared.held.Stage.TheVariants.{Empty, Bytes, Device}

-- memory was refused, and nothing was done
abbrev pub LacksMemory : Stage → Stage → ℕ → Type 0
LacksMemory old new status = (status ≡ 10) × (new ≡ old)

-- no bytes have come yet
abbrev pub BeginsBytes : Stage → Stage → ℕ → Type 0
BeginsBytes Empty new status = ((status ≡ 0) × (new ≡ Bytes [])) ⊎ LacksMemory Empty new status
BeginsBytes old new status = IsUndone old new status

-- these bytes come behind the others
abbrev pub AddsBytes : List ℕ → Stage → Stage → ℕ → Type 0
AddsBytes more (Bytes bytes) new status = ((status ≡ 0) × (new ≡ Bytes (bytes ++ more))) ⊎ LacksMemory (Bytes bytes) new status
AddsBytes more old new status = IsUndone old new status

-- a device of the whole sectors of these bytes, of which no call was made
pub record IsFresh (bytes : List ℕ) (disk : QueueDisk) : Type 0 where
  pub sectors : disk.sectors ≡ length bytes / 512
  pub image : disk.image ≡ take (512 * disk.sectors) bytes
  pub queue : disk.queue ≡ []
  pub past : disk.past ≡ record { start = disk.image; drained = []; faults = 0; calls = 0 }

-- the device of the bytes that came
abbrev pub MakesDevice : Stage → Stage → ℕ → Type 0
MakesDevice (Bytes bytes) (Device disk) status = (status ≡ 0) × IsFresh bytes disk
MakesDevice (Bytes bytes) new status = ⊥
MakesDevice old new status = IsUndone old new status
