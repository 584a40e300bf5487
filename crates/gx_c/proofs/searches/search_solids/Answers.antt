use Rattle.std.proofs.Common.{refl}
use Rattle.gx_c.proofs.searches.search_solids.Goals as goal

pub returns-in-Some-clause-searches : goal.returns-in-Some-clause-searches
returns-in-Some-clause-searches c = rw (← c.in-Some.ensures) c.find_solids.ensures.finds

pub returns-in-None-clause-searches : goal.returns-in-None-clause-searches
returns-in-None-clause-searches c = rw (← c.in-None.ensures) (refl, (record { found = refl; told = refl; same = refl }, refl))
