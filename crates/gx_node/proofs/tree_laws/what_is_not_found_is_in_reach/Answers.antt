use Rattle.gx_node.proofs.tree_laws.InReach.{wanted_in_reach}
use Rattle.gx_node.proofs.tree_laws.what_is_not_found_is_in_reach.Goals as goal

pub returns : goal.returns
returns g c = λ t wants test stack found look more. wanted_in_reach t wants test stack found look more
