use Rattle.std.proofs.Common.{sym, arith}
use Rattle.std.proofs.lemmas.Grind.{common_steps}
use Rattle.gx_node.specs.Reading.{format_of}
use Rattle.gx_node.proofs.Slots.{one_is_no_pair}
use Rattle.gx_node.proofs.check.are_pairs.Goals as goal

pub returns-then-not-is_pair-clause-test : goal.returns-then-not-is_pair-clause-test
returns-then-not-is_pair-clause-test g c =
    sym (one_is_no_pair (format_of g.K.KeyClass) c.args.page.now.items c.loop-slot.slot (omega arith) (grind (arith, common_steps)))
