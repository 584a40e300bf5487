use Rattle.std.proofs.Common.{refl}
use Rattle.gx_found_log.proofs.classes.examine_class_log.Goals as goal

-- entries of a class are ordered as their type orders them
pub returns-clause-log : goal.returns-clause-log
returns-clause-log g c = λ honest d pages most. c.examine_log.ensures.log honest d refl pages most

pub returns-clause-shows : goal.returns-clause-shows
returns-clause-shows g c = λ honest d pages most. c.examine_log.ensures.shows honest d refl pages most
