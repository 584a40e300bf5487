use Rattle.gx_index_laws.proofs.Answering.{absent_by_look, absent_by_mark}
use Rattle.gx_index_laws.proofs.looks.nothing_live_is_absent.Goals as goal

pub returns-clause-none : goal.returns-clause-none
returns-clause-none g c = λ k l old w works s locks notes e at looks. absent_by_look k l old w works s locks notes e at looks

pub returns-clause-marked : goal.returns-clause-marked
returns-clause-marked g c = λ k l old w works s locks notes e leaf at used bottom some. absent_by_mark k l old w works s locks notes e leaf at used bottom some
