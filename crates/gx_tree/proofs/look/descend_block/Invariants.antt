use Rattle.std.proofs.Common.{◌≡◌, ◌++◌, map, take}
use Rattle.std.specs.Prelude.{slice_get}
use Rattle.std.specs.List.{filter_map}
use Rattle.gx_tree.specs.Looking.{item_of}
use Rattle.gx_tree.proofs.look.descend_block.Given as goal

abbrev pub invariant-loop-slot : goal.invariant-loop-slot
invariant-loop-slot g l =
    l.stack.items ≡ l.fn.stack.items ++ map (item_of l.counter) (filter_map (slice_get l.inner.children) (take l.slot-index l.slots))
