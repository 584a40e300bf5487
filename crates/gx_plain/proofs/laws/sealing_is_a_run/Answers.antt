use Rattle.gx_plain.proofs.SealLaws.{sealed_run, sealed_plain}
use Rattle.gx_plain.proofs.laws.sealing_is_a_run.Goals as goal

pub returns-clause-run : goal.returns-clause-run
returns-clause-run g c = λ k s number old new plain seals. sealed_run k s number old new plain seals

pub returns-clause-plain : goal.returns-clause-plain
returns-clause-plain g c = λ k s number old new plain seals. sealed_plain k s number old new plain seals
