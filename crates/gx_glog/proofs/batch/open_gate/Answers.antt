use Rattle.std.proofs.Common.{refl}
use Rattle.gx_glog.proofs.Fills.{gate_is}
use Rattle.gx_glog.proofs.batch.open_gate.Goals as goal

pub returns-clause-gate : goal.returns-clause-gate
returns-clause-gate c = gate_is 512 _ refl refl
