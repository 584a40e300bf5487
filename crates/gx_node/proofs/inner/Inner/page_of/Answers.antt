use Rattle.std.proofs.lemmas.Grind.{common_steps}
use Rattle.std.proofs.Common.{arith}
use Rattle.gx_node.proofs.inner.Inner.page_of.Goals as goal

pub item_in-requires-clause-slot : goal.item_in-requires-clause-slot
item_in-requires-clause-slot g c = grind (arith, common_steps)
