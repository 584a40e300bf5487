use Rattle.gx_plain.proofs.SealLaws.{dropped_plain}
use Rattle.gx_plain.proofs.laws.dropping_is_a_step.Goals as goal

pub returns-clause-plain : goal.returns-clause-plain
returns-clause-plain g c = λ s old new plain drops. dropped_plain s old new plain drops
