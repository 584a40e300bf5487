use Rattle.gx_recovery.proofs.Lives.{appended_healthy, appended_moves}
use Rattle.gx_recovery.proofs.laws.append_keeps_sets.Goals as goal

pub returns-clause-healthy : goal.returns-clause-healthy
returns-clause-healthy g c = λ d l s r h m. appended_healthy (g.M.Meaning.known d) l s h r m

pub returns-clause-sets : goal.returns-clause-sets
returns-clause-sets g c = λ d l s r h m. appended_moves (g.M.Meaning.known d) l s h r m
