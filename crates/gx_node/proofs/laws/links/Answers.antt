use Rattle.std.proofs.Common.{refl}
use Rattle.gx_node.proofs.laws.links.Goals as goal

pub returns : goal.returns
returns g c = λ page nsn right number used. record { leaf = refl; leaf_node = refl; inner = refl; inner_node = refl }
