use Rattle.std.proofs.Common.{sym, subst}
use Rattle.gx_machine.specs.Invariants.{SessionsHold}
use Rattle.gx_machine.proofs.StepsKeep.{run_holds, idle_hold}
use Rattle.gx_machine.proofs.laws.sessions_never_conflict.Goals as goal

pub returns : goal.returns
returns g c = λ k l start new steps idle run. run_holds k l steps start new run (subst (SessionsHold k) (sym idle) (idle_hold k l))
