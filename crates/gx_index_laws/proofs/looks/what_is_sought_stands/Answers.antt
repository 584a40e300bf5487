use Rattle.gx_index_laws.proofs.Answering.{seeks_stand}
use Rattle.gx_index_laws.proofs.looks.what_is_sought_stands.Goals as goal

pub returns : goal.returns
returns g c = λ k l old w s e leaf at. seeks_stand k l old w s e leaf at
