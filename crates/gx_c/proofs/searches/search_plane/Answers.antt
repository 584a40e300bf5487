use Rattle.gx_c.proofs.Stages.{undone_plane}
use Rattle.gx_c.proofs.searches.search_plane.Goals as goal

pub returns-in-Plane-clause-searches : goal.returns-in-Plane-clause-searches
returns-in-Plane-clause-searches c = rw c.in-Plane.is c.search_box.ensures.searches

pub returns-in_default-clause-searches : goal.returns-in_default-clause-searches
returns-in_default-clause-searches c = undone_plane _ _ c.in_default.not-Plane
