use Rattle.gx_tree.proofs.Widens.{widening}
use Rattle.gx_tree.proofs.laws.widening_is_a_step.Goals as goal

pub returns : goal.returns
returns g c = λ r coming key old new legal a slot used ch at first second least covered changes.
    widening r coming key old new legal a slot used ch at first second changes least covered
