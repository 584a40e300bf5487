use Rattle.gx_node.proofs.Sums.{how_many-flat_map}
use Rattle.gx_node.proofs.tree_laws.standing_pairs_are_those_of_the_chain.Goals as goal

pub returns : goal.returns
returns g c = λ t test. how_many-flat_map test t
