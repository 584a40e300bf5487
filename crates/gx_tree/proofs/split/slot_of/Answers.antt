use Rattle.std.proofs.Common.{arith}
use Rattle.gx_tree.proofs.split.Named.{none_named, two_named, once_before, once_to_the_end}
use Rattle.gx_tree.proofs.split.slot_of.Goals as goal

pub returns-in_default-clause-none : goal.returns-in_default-clause-none
returns-in_default-clause-none g c = none_named c.args.inner.now.children c.args.page c.in_default.ensures

pub returns-then-slot-count-clause-once : goal.returns-then-slot-count-clause-once
returns-then-slot-count-clause-once g c =
    once_to_the_end c.args.inner.now.children c.args.page c.in-Some.slot c.in-Some.ensures (omega (arith, c.if-slot-count.true, c.len-count.ensures))

pub returns-in-Some-next_named-clause-none : goal.returns-in-Some-next_named-clause-none
returns-in-Some-next_named-clause-none g c =
    two_named c.args.inner.now.children c.args.page c.in-Some.slot c.in-Some-next_named.field-0 c.in-Some.ensures c.in-Some-next_named.ensures

pub returns-in-None-clause-once : goal.returns-in-None-clause-once
returns-in-None-clause-once g c = once_before c.args.inner.now.children c.args.page c.in-Some.slot c.in-Some.ensures c.in-None.ensures
