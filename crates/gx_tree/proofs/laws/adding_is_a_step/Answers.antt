use Rattle.gx_tree.proofs.Marking.{adding}
use Rattle.gx_tree.proofs.laws.adding_is_a_step.Goals as goal

pub returns : goal.returns
returns g c = λ r old new legal a entry appends absent covered. adding r old new legal a entry appends absent covered
