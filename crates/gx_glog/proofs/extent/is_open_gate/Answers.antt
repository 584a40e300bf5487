use Rattle.std.proofs.Common.{refl}
use Rattle.gx_glog.specs.Layout.{is_open}
use Rattle.gx_glog.proofs.extent.is_open_gate.Goals as goal

pub returns-clause-state : goal.returns-clause-state
unfolding is_open
returns-clause-state g c = λ honest. rw (c.in_ok-byte.ensures.byte honest, c.gates.ensures, c.from.ensures) refl
