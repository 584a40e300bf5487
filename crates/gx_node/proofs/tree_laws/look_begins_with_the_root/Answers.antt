use Rattle.gx_node.proofs.OwnLook.{look_begins, pages_begin}
use Rattle.gx_node.proofs.tree_laws.look_begins_with_the_root.Goals as goal

pub returns-clause-look : goal.returns-clause-look
returns-clause-look g c = λ r t legal wants. look_begins r t legal wants

pub returns-clause-pages : goal.returns-clause-pages
returns-clause-pages g c = λ r t legal. pages_begin r t legal
