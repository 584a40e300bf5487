use Rattle.gx_node.proofs.Blocks.{block_more}
use Rattle.gx_node.proofs.laws.blocks.Goals as goal

pub returns : goal.returns
returns g c = record { pairs = block_more; children = block_more }
