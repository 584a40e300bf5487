use Rattle.std.proofs.Common.{◌≡◌, List, ◌++◌, map, drop}
use Rattle.gx_machine.specs.Keys.{entry_cmp}
use Rattle.gx_machine.specs.declared.entry.Entry.{Entry}
use Rattle.gx_node.specs.Edits.{entry_of}
use Rattle.gx_node.specs.Reading.{format_of}
use Rattle.gx_node.specs.Store.{node_of}
use Rattle.gx_legality.specs.Gathered.{Gathers}
use Rattle.gx_legality.proofs.leaves.gather_page.Given as goal

abbrev pub invariant-loop-slot : goal.invariant-loop-slot
invariant-loop-slot g l =
    (l.gather.above ≡ l.fn.gather.above)
    × ((all rest : List (Entry g.row.K-Key.Denot))
    → Gathers (entry_cmp (record { cmp = g.K.Key.Ord.cmp; overlaps = g.K.Key.Shape.overlap; within = g.K.Key.Shape.inside })) l.fn.gather all
    (map entry_of (node_of (format_of g.K.KeyClass) l.page).pairs ++ rest)
    → Gathers (entry_cmp (record { cmp = g.K.Key.Ord.cmp; overlaps = g.K.Key.Shape.overlap; within = g.K.Key.Shape.inside })) l.gather all
    (map entry_of (drop l.slot (node_of (format_of g.K.KeyClass) l.page).pairs) ++ rest))
