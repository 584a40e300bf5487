use Rattle.gx_recovery.proofs.Lives.{written_healthy, written_stays}
use Rattle.gx_recovery.proofs.laws.page_writes_keep_sets.Goals as goal

pub returns-clause-healthy : goal.returns-clause-healthy
returns-clause-healthy g c = λ d l s area h agrees. written_healthy (g.M.Meaning.known d) s h l area agrees

pub returns-clause-sets : goal.returns-clause-sets
returns-clause-sets g c = λ d l s area h agrees. written_stays (g.M.Meaning.known d) s h l area agrees
