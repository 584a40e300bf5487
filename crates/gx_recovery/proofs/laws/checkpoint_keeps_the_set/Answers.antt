use Rattle.gx_recovery.proofs.Moves.{checkpoint_healthy, checkpoint_stays, checkpoint_stands}
use Rattle.gx_recovery.proofs.laws.checkpoint_keeps_the_set.Goals as goal

pub returns-clause-healthy : goal.returns-clause-healthy
returns-clause-healthy g c = λ d l s h no_flight no_filling written next. checkpoint_healthy (g.M.Meaning.known d) l s h no_flight no_filling written next

pub returns-clause-sets : goal.returns-clause-sets
returns-clause-sets g c = λ d l s h no_flight no_filling written next. checkpoint_stays (g.M.Meaning.known d) l s h no_flight no_filling written next

pub returns-clause-either : goal.returns-clause-either
returns-clause-either g c = λ d l s h no_flight no_filling written next e. checkpoint_stands (g.M.Meaning.known d) l s h no_flight no_filling written next e
