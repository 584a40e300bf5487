use Rattle.gx_c.proofs.Stages.{undone_space}
use Rattle.gx_c.proofs.searches.search_space.Goals as goal

pub returns-in-Space-clause-searches : goal.returns-in-Space-clause-searches
returns-in-Space-clause-searches c = rw c.in-Space.is c.search_solid.ensures.searches

pub returns-in_default-clause-searches : goal.returns-in_default-clause-searches
returns-in_default-clause-searches c = undone_space _ _ c.in_default.not-Space
