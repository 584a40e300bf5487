use Rattle.gx_tree.proofs.Widens.{never_empty}
use Rattle.gx_tree.proofs.laws.never_damaged.Goals as goal

pub returns : goal.returns
returns g c = λ r t legal a used inner. never_empty r t legal a used inner
