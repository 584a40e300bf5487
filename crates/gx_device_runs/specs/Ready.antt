-- Pages with their log on which steps may be made.
use Rattle.std.specs.Prelude.{◌≡◌, ◌≤◌, Bool, false}
use Rattle.gx_glog.specs.declared.stage.Turn.TheVariants.{Closed}
use Rattle.gx_storage.specs.State.{Volume}

-- if it is said that no turn of the log is under way, there is none, and nodes have room for the halves of a split
pub record IsReady {D : Type 0} (turning : Bool) (v : Volume D) : Type 0 where
  pub still : turning ≡ false → v.log.turn ≡ Closed
  pub most : 4 ≤ v.most
