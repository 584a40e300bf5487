use Rattle.gx_node.proofs.SeekSteps.{seek_begins, seek_at_leaf, seek_goes_right}
use Rattle.gx_node.proofs.Chains.{length_walk}
use Rattle.gx_node.proofs.tree_laws.seek_goes_right.Goals as goal

pub returns-clause-begins : goal.returns-clause-begins
returns-clause-begins g c = λ r a row key t legal used leaf here. seek_begins r a row key t legal used leaf here

pub returns-clause-at_leaf : goal.returns-clause-at_leaf
returns-clause-at_leaf g c = λ r a row key t seek. seek_at_leaf r a row key t seek

pub returns-clause-right : goal.returns-clause-right
returns-clause-right g c = λ r a row key t seek none. seek_goes_right r a row key t seek none

pub returns-clause-most : goal.returns-clause-most
returns-clause-most g c = λ t a. length_walk t t.used a
