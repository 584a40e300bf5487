use Rattle.std.proofs.Common.{refl}
use Rattle.gx_c.proofs.Stages.{undone_plane}
use Rattle.gx_c.proofs.searches.more_of_plane.Goals as goal

pub returns-in-Plane-clause-tells : goal.returns-in-Plane-clause-tells
returns-in-Plane-clause-tells c = rw c.in-Plane.is (refl, c.more_boxes.ensures)

pub returns-in_default-clause-tells : goal.returns-in_default-clause-tells
returns-in_default-clause-tells c = undone_plane _ _ c.in_default.not-Plane
