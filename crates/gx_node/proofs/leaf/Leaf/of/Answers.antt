use Rattle.gx_node.specs.Reading.{format_of}
use Rattle.gx_node.proofs.Slots.{leaf_is_keyed}
use Rattle.gx_node.proofs.leaf.Leaf.of.Goals as goal

pub invariant_of-result : goal.invariant_of-result
invariant_of-result g c = leaf_is_keyed (format_of g.K.KeyClass) c.args.page.now c.requires
