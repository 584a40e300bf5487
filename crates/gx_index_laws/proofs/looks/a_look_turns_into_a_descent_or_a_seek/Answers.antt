use Rattle.gx_index_laws.proofs.Answering.{look_descends, descent_finds_none, look_seeks, seek_right}
use Rattle.gx_index_laws.proofs.looks.a_look_turns_into_a_descent_or_a_seek.Goals as goal

pub returns-clause-descends : goal.returns-clause-descends
returns-clause-descends g c = λ k l old w s e at call. look_descends k l old w s e at call

pub returns-clause-absent : goal.returns-clause-absent
returns-clause-absent g c = λ k l old w s e parent item at. descent_finds_none k l old w s e parent item at

pub returns-clause-seeks : goal.returns-clause-seeks
returns-clause-seeks g c = λ k l old w s e leaf wanted used bottom some. look_seeks k l old w s e leaf wanted used bottom some

pub returns-clause-right : goal.returns-clause-right
returns-clause-right g c = λ k l old w s e leaf at none. seek_right k l old w s e leaf at none
