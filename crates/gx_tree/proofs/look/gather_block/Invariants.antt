use Rattle.std.proofs.Common.{◌≡◌, ◌++◌, filter, map, take}
use Rattle.std.specs.Prelude.{slice_get}
use Rattle.std.specs.List.{filter_map}
use Rattle.gx_tree.specs.Found.{found_at}
use Rattle.gx_tree.specs.Wants.{has_row}
use Rattle.gx_tree.proofs.look.gather_block.Given as goal

abbrev pub invariant-loop-slot : goal.invariant-loop-slot
invariant-loop-slot g l =
    l.found.items ≡ l.fn.found.items ++ map (found_at l.page) (filter (has_row l.wanted.row) (filter_map (slice_get l.leaf.pairs) (take l.slot-index l.slots)))
