use Rattle.std.proofs.Common.{refl}
use Rattle.gx_found_log.proofs.classes.read_class_log.Goals as goal

-- entries of a class are ordered as their type orders them
pub returns-clause-log : goal.returns-clause-log
returns-clause-log g c = λ honest d pages most. c.read_log.ensures.log honest d refl pages most
