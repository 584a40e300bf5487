use Rattle.gx_glog.proofs.Keeping.{on_kept, gated_stays, bodies_stay}
use Rattle.gx_glog.proofs.laws.calls_elsewhere.Goals as goal

pub returns : goal.returns
returns c = record {
  on = λ log seen seen' pending pending'. on_kept seen seen' pending pending' log;
  batches = λ log seen seen' pending pending'. gated_stays seen seen' pending pending' log;
  bodies = λ log seen seen' pending pending'. bodies_stay seen seen' pending pending' log;
}
