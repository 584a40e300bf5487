-- Runs of reads.
use Rattle.gx_disk.specs.Device.{Device, MayLeave, Rests, SamePending}
use Rattle.gx_disk.specs.Moments.{Leaves}

-- nothing reads otherwise, the same is pending, and each image since is one that could be left before
pub record Looks (old new : Device) : Type 0 where
  pub rests : Rests old new
  pub pending : SamePending old new
  pub leaves : Leaves (MayLeave old) old new
