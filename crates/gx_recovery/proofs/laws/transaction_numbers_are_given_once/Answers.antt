use Rattle.gx_recovery.proofs.Numbers.{next_above, next_rises, next_renewed, life_next}
use Rattle.gx_recovery.proofs.laws.transaction_numbers_are_given_once.Goals as goal

pub returns-clause-above : goal.returns-clause-above
returns-clause-above g c = λ d l log is t h. next_above (g.M.Meaning.known d) l log is t h

pub returns-clause-rises : goal.returns-clause-rises
returns-clause-rises g c = λ d l log r f. next_rises (g.M.Meaning.known d) l log r f

pub returns-clause-renewed : goal.returns-clause-renewed
returns-clause-renewed g c = λ d l next log is up. next_renewed (g.M.Meaning.known d) l next log is up

pub returns-clause-life : goal.returns-clause-life
returns-clause-life g c = λ d l old new steps h life. life_next (g.M.Meaning.known d) l steps old new h life
