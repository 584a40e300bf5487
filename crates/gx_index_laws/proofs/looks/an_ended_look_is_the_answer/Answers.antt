use Rattle.gx_index_laws.proofs.Answering.{look_answers}
use Rattle.gx_index_laws.proofs.looks.an_ended_look_is_the_answer.Goals as goal

pub returns : goal.returns
returns g c = λ k l old w works s locks notes query found at looks. look_answers k l old w works s locks notes query found at looks
