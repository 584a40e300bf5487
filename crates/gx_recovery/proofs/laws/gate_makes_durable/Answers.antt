use Rattle.gx_recovery.proofs.Lives.{synced_healthy, synced_moves}
use Rattle.gx_recovery.proofs.laws.gate_makes_durable.Goals as goal

pub returns-clause-healthy : goal.returns-clause-healthy
returns-clause-healthy g c = λ d l s h. synced_healthy (g.M.Meaning.known d) l s h

pub returns-clause-sets : goal.returns-clause-sets
returns-clause-sets g c = λ d l s h. synced_moves (g.M.Meaning.known d) l s h
