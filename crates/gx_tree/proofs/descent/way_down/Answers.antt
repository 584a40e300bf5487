use Rattle.std.proofs.Common.{◌<◌, ◌∙◌, sym, length, arith}
use Rattle.gx_tree.proofs.descent.way_down.Goals as goal

pub returns-then-are_same-clause-way : goal.returns-then-are_same-clause-way
returns-then-are_same-clause-way g c = λ seen low.
    let room : length c.args.inner.now.children < c.args.most = omega (arith, c.if-len-most.false, c.len-2.ensures) in
    (low, (c.child-bound.result.0, record { inner = c.requires; room = room; at = c.child-bound.ensures; least = c.least_penalty-slot.ensures }, sym c.union-union.ensures ∙ c.if-are_same.ensures.yes))

pub returns-else-are_same-clause-way : goal.returns-else-are_same-clause-way
returns-else-are_same-clause-way g c = λ seen low.
    let room : length c.args.inner.now.children < c.args.most = omega (arith, c.if-len-most.false, c.len-2.ensures) in
    (low, (c.child-bound.result.0, record { inner = c.requires; room = room; at = c.child-bound.ensures; least = c.least_penalty-slot.ensures }, c.union-union.ensures, c.if-are_same.ensures.no))
