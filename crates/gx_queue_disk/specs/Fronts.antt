-- The call in front of a queue.
use Rattle.std.specs.Prelude.{◌≡◌, List, [], ◌∷◌, Option, None, Some}
use Rattle.gx_queue_disk.specs.Calls.{Call, Write, Sync}
use Rattle.gx_queue_disk.specs.declared.queue.DeviceCall.{DeviceCall}
use Rattle.gx_queue_disk.specs.declared.queue.DeviceCall.TheVariants as device

-- a call that is lent
abbrev pub lent : DeviceCall → Call
lent (device.Write first bytes) = Write first bytes.now
lent device.Sync = Sync

-- the first of these calls is lent, if there is one
abbrev pub IsFront : List Call → Option DeviceCall → Type 0
IsFront calls None = calls ≡ []
IsFront calls (Some call) = (rest : List Call) × (calls ≡ lent call ∷ rest)
