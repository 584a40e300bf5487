use Rattle.gx_index_laws.proofs.Answering.{descent_again, descent_down}
use Rattle.gx_index_laws.proofs.looks.a_descent_goes_on.Goals as goal

pub returns-clause-again : goal.returns-clause-again
returns-clause-again g c = λ k l old w s e parent item at. descent_again k l old w s e parent item at

pub returns-clause-down : goal.returns-clause-down
returns-clause-down g c = λ k l old w s e parent item x at named covers. descent_down k l old w s e parent item x at named covers
