use Rattle.gx_glog.proofs.Images.{turn_shows, turn_shows_bodies}
use Rattle.gx_glog.proofs.Keeping.{start_may_turn, on_may_turn, may_turn_kept, run_stays, run_bodies_stay}
use Rattle.gx_glog.proofs.laws.turns.Goals as goal

pub returns : goal.returns
returns c = record {
  start = start_may_turn;
  on = on_may_turn;
  images = turn_shows;
  elsewhere = λ log seen seen' pending pending'. may_turn_kept seen seen' pending pending' log;
  batches = λ log seen seen' pending pending'. run_stays seen seen' pending pending' log;
  bodies = λ log seen seen' pending pending'. run_bodies_stay seen seen' pending pending' log;
  images_bodies = turn_shows_bodies;
}
