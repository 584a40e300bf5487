use Rattle.std.proofs.Common.{take}
use Rattle.std.specs.List.{flat_map}
use Rattle.gx_script.specs.Corners.{grammar}
use Rattle.gx_script.specs.Replies.{entry_line}
use Rattle.gx_script.specs.Writes.{IsPut}
use Rattle.gx_script.proofs.replies.put_entries.Given as goal

abbrev pub invariant-loop-entry : goal.invariant-loop-entry
invariant-loop-entry g l =
    let k = grammar g.B.Corners.COUNT g.B.Corners.corners g.B.Corners.fit g.B.Corners.made in
    IsPut (g.W.Write.contents l.initial.writer.inner) (g.W.Write.contents l.writer.inner) l.initial.output
    (flat_map (entry_line k l.session) (take l.entry-index l.entries)) l.output
