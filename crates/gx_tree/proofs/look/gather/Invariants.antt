use Rattle.std.proofs.Common.{◌≡◌, ◌++◌, ◌*◌, filter, map, take}
use Rattle.gx_tree.specs.Found.{found_at}
use Rattle.gx_tree.specs.Wants.{wants}
use Rattle.gx_tree.proofs.look.gather.Given as goal

abbrev pub invariant-loop-block : goal.invariant-loop-block
invariant-loop-block g l =
    l.found.items
    ≡ l.fn.found.items ++ map (found_at l.page) (filter (wants g.K.Probing.passes l.wanted.keys l.wanted.row) (take (l.block * 64) l.leaf.pairs))
