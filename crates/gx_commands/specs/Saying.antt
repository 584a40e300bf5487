-- What a device says that it is formatted for.
use Rattle.std.specs.Prelude.{ℕ, List}
use Rattle.gx_disk.specs.Device.{Device, MayLeave}
use Rattle.gx_format.specs.Fresh.{HasMagic}
use Rattle.gx_glog.specs.declared.parameters.Parameters.{Parameters}
use Rattle.gx_opening.specs.Formatted.{Says}

-- whatever a crash may leave of a device has the magic, and says this of the index after it; so does the device as it
-- reads
abbrev pub SaysSo : Parameters → Device → Type 0
SaysSo p d = (image : List ℕ) → MayLeave d image → HasMagic image × Says image p
