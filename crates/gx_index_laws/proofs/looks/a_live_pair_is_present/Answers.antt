use Rattle.gx_index_laws.proofs.Answering.{present}
use Rattle.gx_index_laws.proofs.looks.a_live_pair_is_present.Goals as goal

pub returns : goal.returns
returns g c = λ k l old w works s locks notes e leaf at used bottom some. present k l old w works s locks notes e leaf at used bottom some
