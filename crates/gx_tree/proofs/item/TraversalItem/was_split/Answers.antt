use Rattle.std.proofs.Common.{rules}
use Rattle.gx_tree.proofs.item.TraversalItem.was_split.Goals as goal

pub returns : goal.returns
returns c = search rules
