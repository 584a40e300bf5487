use Rattle.gx_tree.proofs.Marking.{marking}
use Rattle.gx_tree.proofs.laws.marking_is_a_step.Goals as goal

pub returns : goal.returns
returns g c = λ r old new legal a row key wants exact slot before marked sets. marking r old new legal a row key wants exact slot before marked sets
