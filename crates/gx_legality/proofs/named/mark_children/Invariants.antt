use Rattle.std.proofs.Common.{◌≡◌, ℕ, ◌+◌, ◌<◌, length, take}
use Rattle.gx_node.specs.Reading.{format_of}
use Rattle.gx_node.specs.Trees.{times, child_pages}
use Rattle.gx_node.specs.Store.{node_of}
use Rattle.gx_legality.specs.Marks.{marked}
use Rattle.gx_legality.proofs.named.mark_children.Given as goal

abbrev pub invariant-loop-slot : goal.invariant-loop-slot
invariant-loop-slot g l =
    (length l.marks ≡ length l.fn.marks)
    × ((q : ℕ) → q < length l.fn.marks
    → marked l.marks q ≡ marked l.fn.marks q + times q (take l.slot (child_pages (node_of (format_of g.K.KeyClass) l.page))))
