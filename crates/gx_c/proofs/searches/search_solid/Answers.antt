use Rattle.std.proofs.Common.{Ok, Err, refl}
use Rattle.gx_c.proofs.searches.search_solid.Goals as goal

pub returns-in-Ok-clause-searches : goal.returns-in-Ok-clause-searches
returns-in-Ok-clause-searches c = record { key = Ok c.in-Ok.key; is = c.in-Ok.ensures; searches = c.search_solids.ensures.searches }

pub returns-in-Err-clause-searches : goal.returns-in-Err-clause-searches
returns-in-Err-clause-searches c = record { key = Err c.in-Err.why; is = c.in-Err.ensures; searches = (c.refused.ensures, (record { found = refl; told = refl; same = refl }, refl)) }
