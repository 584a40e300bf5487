use Rattle.std.proofs.Common.{sym, arith}
use Rattle.std.proofs.lemmas.Grind.{common_steps}
use Rattle.gx_node.specs.Reading.{format_of}
use Rattle.gx_node.proofs.Slots.{one_is_no_child}
use Rattle.gx_node.proofs.check.are_children.Goals as goal

pub returns-then-not-is_child-clause-test : goal.returns-then-not-is_child-clause-test
returns-then-not-is_child-clause-test g c =
    sym (one_is_no_child (format_of g.K.KeyClass) c.args.used c.args.page.now.items c.loop-slot.slot (omega arith) (grind (arith, common_steps)))
