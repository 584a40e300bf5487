-- A copy of what an opening may read of a device.
use Rattle.std.specs.Prelude.{◌≡◌, ◌⊎◌, ◌*◌, ◌≤◌, ℕ, true, List}
use Rattle.gx_disk.specs.declared.layout.TheConstants.{MIN_SECTORS}
use Rattle.gx_geom.specs.declared.refusal.Refusal.{Refusal}
use Rattle.gx_geom.specs.declared.refusal.Refusal.TheVariants.{Device as DeviceRefusal, Memory}
use Rattle.gx_disk.specs.declared.memory.MemDisk.{MemDisk}
use Rattle.gx_disk.specs.Device.{Device}
use Rattle.gx_disk.specs.Memory.{device_of}
use Rattle.gx_disk.specs.Sectors.{span_of}
use Rattle.gx_format.specs.Formatting.{AreInRange, sectors_of}
use Rattle.gx_glog.specs.declared.parameters.Parameters.{Parameters}
use Rattle.gx_opening.specs.Formatted.{Says}

-- so many sectors are no more than the index has that a device says it is formatted for
abbrev pub IsNoMore : List ℕ → ℕ → Type 0
IsNoMore seen n = (p : Parameters) → Says seen p → n ≤ sectors_of p.pages

-- so many sectors are all that a device has, or all that an index with these parameters takes
abbrev pub AreEnough : ℕ → ℕ → Parameters → Type 0
AreEnough sectors n p = (n ≡ sectors) ⊎ (sectors_of p.pages ≤ n)

-- a device in memory, as contracts see it
abbrev pub memory_state : MemDisk → Device
memory_state m = device_of m.sectors m.past.items m.kept.items m.bytes.items m.faults.count m.calls.count

-- the first so many sectors of a device, as an honest device
pub record IsFront (d : Device) (n : ℕ) (e : Device) : Type 0 where
  pub sectors : e.sectors ≡ n
  pub honest : e.honest ≡ true
  pub bytes : e.seen ≡ span_of d.seen 0 (512 * n)

-- The first sectors of a device, those of the smallest index at least: all that an index takes that the device says
-- it is formatted for, and no more.
pub record IsCopy (d e : Device) : Type 0 where
  pub least : MIN_SECTORS ≤ e.sectors
  pub inside : e.sectors ≤ d.sectors
  pub honest : e.honest ≡ true
  pub bytes : e.seen ≡ span_of d.seen 0 (512 * e.sectors)
  pub enough : (p : Parameters) → Says d.seen p → AreInRange p.pages p.most → AreEnough d.sectors e.sectors p
  pub few : IsNoMore d.seen e.sectors

-- the refusal of a device by that of its copy: the copy's device is memory
abbrev pub refusal_of_copy : Refusal → Refusal
refusal_of_copy DeviceRefusal = Memory
refusal_of_copy why = why
