-- The laws of runs of reads. They speak of a device's state, as contracts see it.
use Rattle.std.specs.Prelude.{ℕ, List, Result}
use Rattle.gx_disk.specs.declared.device.DiskFault.{DiskFault}
use Rattle.gx_disk.specs.Device.{Device, Reads}
use Rattle.gx_disk.specs.Looks.{Looks}

-- a read is a run of reads
abbrev pub AReadLooks : {D : Type 0} → (D → Device) → Type 0
AReadLooks {D = D} state = (first : ℕ) (bytes : List ℕ) (old new : D) (result : Result (Unit {0}) DiskFault) → Reads first bytes (state old) (state new) result → Looks (state old) (state new)

-- two in a row are one
abbrev pub LooksJoin : {D : Type 0} → (D → Device) → Type 0
LooksJoin {D = D} state = (a b c : D) → Looks (state a) (state b) → Looks (state b) (state c) → Looks (state a) (state c)
