use Rattle.gx_index_laws.proofs.Answering.{look_read}
use Rattle.gx_index_laws.proofs.looks.a_look_goes_on.Goals as goal

pub returns : goal.returns
returns g c = λ k l old w s item stack found at leads consistent. look_read k l old w s item stack found at leads consistent
