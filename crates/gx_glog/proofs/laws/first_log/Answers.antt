use Rattle.std.proofs.Common.{refl}
use Rattle.gx_glog.proofs.FirstLog.{first_spelled, first_on, first_images, first_bodies, first_log}
use Rattle.gx_glog.proofs.laws.first_log.Goals as goal

pub returns : goal.returns
returns c = record {
  spelled = first_spelled;
  selector = refl;
  log = first_log;
  body = first_bodies;
  on = first_on;
  images = λ seen pending image has settled. first_images seen pending has settled image;
}
