use Rattle.gx_recovery.proofs.Given.{given_is_the_page, redone_by_given, some_given, none_given, spoken_is_given, renewed_gives_none}
use Rattle.gx_recovery.proofs.InUse.{given_in_use}
use Rattle.gx_recovery.proofs.laws.a_log_gives_what_it_speaks_of.Goals as goal

pub returns-clause-given : goal.returns-clause-given
returns-clause-given g c = λ log p area content h. given_is_the_page log p area content h

pub returns-clause-pages : goal.returns-clause-pages
returns-clause-pages g c = λ d log p area is. redone_by_given (g.M.Meaning.known d) log p area is

pub returns-clause-whole : goal.returns-clause-whole
returns-clause-whole g c = λ log p h. some_given log p h

pub returns-clause-nothing : goal.returns-clause-nothing
returns-clause-nothing g c = λ log p h. none_given log p h

pub returns-clause-spoken : goal.returns-clause-spoken
returns-clause-spoken g c = λ d log p is h. spoken_is_given (g.M.Meaning.known d) p log is h

pub returns-clause-renewed : goal.returns-clause-renewed
returns-clause-renewed g c = λ d next log p. renewed_gives_none (g.M.Meaning.known d) next log p

pub returns-clause-in_use : goal.returns-clause-in_use
returns-clause-in_use g c = λ d log p is some. given_in_use (g.M.Meaning.known d) p log is some
