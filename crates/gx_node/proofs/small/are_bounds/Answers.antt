use Rattle.std.proofs.Common.{sym, arith}
use Rattle.std.proofs.lemmas.Grind.{common_steps}
use Rattle.gx_node.specs.Reading.{format_of}
use Rattle.gx_node.proofs.SmallItems.{all_are_bounds, one_is_no_bound}
use Rattle.gx_node.proofs.small.are_bounds.Goals as goal

pub returns-then-not-is_bound : goal.returns-then-not-is_bound
returns-then-not-is_bound g c =
    let f = format_of g.K.KeyClass in
    sym (one_is_no_bound f c.args.page.now.items c.loop-slot.slot (omega arith) (grind (arith, common_steps)))

pub returns : goal.returns
returns g c = sym (all_are_bounds (format_of g.K.KeyClass) c.args.page.now.items (λ k h. c.loop-slot.invariant k (omega arith)))
