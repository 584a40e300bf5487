use Rattle.gx_node.proofs.SeekSteps.{sought_stands}
use Rattle.gx_node.proofs.tree_laws.a_sought_pair_stands.Goals as goal

pub returns : goal.returns
returns g c = λ r a row key t legal seek. sought_stands r a row key t legal seek
