use Rattle.std.proofs.Common.{refl}
use Rattle.gx_c.proofs.searches.gx_c_search.Goals as goal

pub returns-clause-searches : goal.returns-clause-searches
returns-clause-searches c = rw (c.take-held.ensures.had, ← c.deref_mut.ensures.value, c.put.ensures) (c.search_plane-status.ensures.searches, refl)
