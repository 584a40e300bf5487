use Rattle.gx_c.proofs.Stages.{undone_plane}
use Rattle.gx_c.proofs.entries.write_plane.Goals as goal

pub returns-in-Plane : goal.returns-in-Plane
returns-in-Plane c = rw c.in-Plane.is c.write_box.ensures

pub returns-in_default : goal.returns-in_default
returns-in_default c = undone_plane _ _ c.in_default.not-Plane
