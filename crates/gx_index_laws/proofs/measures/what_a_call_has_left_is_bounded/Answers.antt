use Rattle.gx_index_laws.proofs.Measuring.{left_below}
use Rattle.gx_index_laws.proofs.measures.what_a_call_has_left_is_bounded.Goals as goal

pub returns : goal.returns
returns g c = λ k l old w small few s. left_below k l old w small few s
