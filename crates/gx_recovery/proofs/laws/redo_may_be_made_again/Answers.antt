use Rattle.gx_recovery.proofs.States.{redone_again}
use Rattle.gx_recovery.proofs.Given.{ungiven_is_untouched, redone_twice}
use Rattle.gx_recovery.proofs.laws.redo_may_be_made_again.Goals as goal

pub returns-clause-again : goal.returns-clause-again
returns-clause-again g c = λ log old new agrees. redone_again log old new agrees

pub returns-clause-others : goal.returns-clause-others
returns-clause-others g c = λ d log area is p h. ungiven_is_untouched (g.M.Meaning.known d) log p area is h

pub returns-clause-twice : goal.returns-clause-twice
returns-clause-twice g c = λ d log area is. redone_twice (g.M.Meaning.known d) log area is
