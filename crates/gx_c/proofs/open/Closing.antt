-- An index that was settled, and whose device is left, was closed.
use Rattle.std.proofs.Common.{◌≡◌, ℕ}
use Rattle.gx_class.specs.Traits.{Traits}
use Rattle.gx_disk.specs.Device as disk
use Rattle.gx_machine.specs.Keys.{Members}
use Rattle.gx_queue_disk.specs.declared.disk.QueueDisk.{QueueDisk}
use Rattle.gx_c.specs.Asking.{SettlesOpen}
use Rattle.gx_c.specs.Openings.{ClosesOpen}
use Rattle.gx_c.specs.States.{Opened}
use Rattle.gx_c.specs.Waiting.{disk_of}

pub closes : {B : Type 0} (shape : Members B) (traits : Traits B) (state : QueueDisk → disk.Device) (old settled : Opened B) (left : QueueDisk) (status : ℕ) → SettlesOpen shape traits state old settled status → left ≡ disk_of settled
    → ClosesOpen shape traits state old left status
closes shape traits state old settled left status did is = record {
  result = did.result;
  settled = settled.index;
  settles = did.settles;
  told = did.told;
  runs = did.runs;
  rests = did.rests;
  keeps = did.keeps;
  left_is = is;
  status_is = did.status_is;
}
