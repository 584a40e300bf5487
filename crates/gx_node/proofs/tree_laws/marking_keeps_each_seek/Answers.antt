use Rattle.gx_node.proofs.SeekSteps.{seek_marked}
use Rattle.gx_node.proofs.tree_laws.marking_keeps_each_seek.Goals as goal

pub returns : goal.returns
returns g c = λ r a row key old new b marked_row marked_key mark step seek. seek_marked r a row key old new b marked_row marked_key mark step seek
