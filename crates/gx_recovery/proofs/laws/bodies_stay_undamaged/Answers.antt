use Rattle.gx_recovery.proofs.Bodies.{batch_undamaged, renewed_undamaged}
use Rattle.gx_recovery.proofs.laws.bodies_stay_undamaged.Goals as goal

pub returns-clause-batch : goal.returns-clause-batch
returns-clause-batch g c = λ d l area bodies body h come. batch_undamaged (g.M.Meaning.known d) l area bodies body h come

pub returns-clause-renewed : goal.returns-clause-renewed
returns-clause-renewed g c = λ d l next area log is. renewed_undamaged (g.M.Meaning.known d) l next area log is
