use Rattle.gx_node.specs.Reading.{format_of}
use Rattle.gx_node.proofs.Slots.{inner_is_keyed}
use Rattle.gx_node.proofs.inner.Inner.of.Goals as goal

pub invariant_of-result : goal.invariant_of-result
invariant_of-result g c = inner_is_keyed (format_of g.K.KeyClass) c.args._used c.args.page.now c.requires
