use Rattle.std.proofs.lemmas.List.Elements.{All-nil}
use Rattle.gx_machine.specs.Sets.{InOrder}
use Rattle.gx_machine.proofs.StepsKeep.{run_in_order}
use Rattle.gx_machine.proofs.laws.kept_sets_stay_in_order.Goals as goal

pub returns-clause-run : goal.returns-clause-run
returns-clause-run g c = λ k l old new steps kept run. run_in_order k l steps old new run kept

pub returns-clause-fresh : goal.returns-clause-fresh
returns-clause-fresh g c = λ k. record { older = All-nil (InOrder k); latest = tt }
