use Rattle.std.proofs.Common.{◌≡◌, ◌++◌, ◌*◌, take}
use Rattle.gx_tree.specs.Looking.{below}
use Rattle.gx_tree.proofs.look.descend.Given as goal

abbrev pub invariant-loop-block : goal.invariant-loop-block
invariant-loop-block g l =
    l.stack.items ≡ l.fn.stack.items ++ below l.counter (g.K.Probing.passes l.wanted.bounds) (take (l.block * 64) l.inner.children)
