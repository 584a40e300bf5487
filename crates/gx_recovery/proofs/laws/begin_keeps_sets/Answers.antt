use Rattle.gx_recovery.proofs.Lives.{begun_healthy, begun_stays}
use Rattle.gx_recovery.proofs.laws.begin_keeps_sets.Goals as goal

pub returns-clause-healthy : goal.returns-clause-healthy
returns-clause-healthy g c = λ d s h none. begun_healthy (g.M.Meaning.known d) s h none

pub returns-clause-sets : goal.returns-clause-sets
returns-clause-sets g c = λ d s h none. begun_stays (g.M.Meaning.known d) s h none
