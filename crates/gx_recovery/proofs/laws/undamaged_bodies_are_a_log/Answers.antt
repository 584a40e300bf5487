use Rattle.gx_recovery.proofs.DamageItems.{bodies_log, none_damaged}
use Rattle.gx_recovery.proofs.laws.undamaged_bodies_are_a_log.Goals as goal

pub returns-clause-log : goal.returns-clause-log
returns-clause-log g c = λ d bodies h. bodies_log (g.M.Meaning.known d) bodies h

pub returns-clause-items : goal.returns-clause-items
returns-clause-items g c = λ d bodies. none_damaged (g.M.Meaning.known d) bodies
