use Rattle.std.proofs.Common.{refl}
use Rattle.gx_glog.proofs.Told.{told}
use Rattle.gx_glog.proofs.laws.parameters.Goals as goal

pub returns : goal.returns
returns c = record { told = told; sector = refl }
