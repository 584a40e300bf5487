use Rattle.gx_glog.proofs.Cuts.{joined_log}
use Rattle.gx_glog.proofs.Images.{image_shows, image_shows_bodies, selected_shows}
use Rattle.gx_glog.proofs.laws.images.Goals as goal

pub returns : goal.returns
returns c = record { log = image_shows; selector = selected_shows; bodies = image_shows_bodies; joined = joined_log }
