use Rattle.std.proofs.Common.{take}
use Rattle.std.specs.List.{flat_map}
use Rattle.gx_script.specs.Writes.{IsPut}
use Rattle.gx_script.specs.Corners.{grammar}
use Rattle.gx_restart.specs.Text.{child_line}
use Rattle.gx_restart.proofs.text.pages.put_children.Given as goal

-- the lines of the children before this slot were put
abbrev pub invariant-loop-slot : goal.invariant-loop-slot
invariant-loop-slot g l =
    let k = grammar g.B.Corners.COUNT g.B.Corners.corners g.B.Corners.fit g.B.Corners.made in
    IsPut (g.W.Write.contents l.initial.writer.inner) (g.W.Write.contents l.writer.inner) l.initial.lines (flat_map (child_line k) (take l.slot l.inner.children)) l.lines
