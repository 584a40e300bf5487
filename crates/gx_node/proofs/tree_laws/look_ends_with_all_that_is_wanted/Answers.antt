use Rattle.gx_node.proofs.OwnLook.{look_ends, found_once}
use Rattle.gx_node.proofs.tree_laws.look_ends_with_all_that_is_wanted.Goals as goal

pub returns-clause-all : goal.returns-clause-all
returns-clause-all g c = λ t wants found look test. look_ends t wants found look test

pub returns-clause-once : goal.returns-clause-once
returns-clause-once g c = λ r t legal wants stack found look row key. found_once r t legal wants stack found look row key
