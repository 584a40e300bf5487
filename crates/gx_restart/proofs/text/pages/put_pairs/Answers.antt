use Rattle.std.proofs.Common.{take, drop}
use Rattle.std.specs.List.{flat_map}
use Rattle.std.proofs.lemmas.Result.{err_from_is_err_and}
use Rattle.gx_script.specs.Corners.{grammar}
use Rattle.gx_script.proofs.WriteLemmas.{put_more, put_cut, cut_more, texts_split}
use Rattle.gx_restart.specs.Text.{entry_line}
use Rattle.gx_restart.proofs.Texts.{text_more}
use Rattle.gx_restart.proofs.text.pages.put_pairs.Goals as goal

pub returns-in_err-make_room-clause-cut : goal.returns-in_err-make_room-clause-cut
returns-in_err-make_room-clause-cut g c =
    let k = grammar g.B.Corners.COUNT g.B.Corners.corners g.B.Corners.fit g.B.Corners.made in
    let p = err_from_is_err_and c.from_residual.result c.from_residual.ensures.1 in
    let cut = c.in_err-make_room.ensures.cut in
    let later = flat_map (entry_line k) (drop c.loop-slot.slot c.args.leaf.now.pairs) in
    rw (p.1, p.2) (
      cut.0,
      put_cut (g.W.Write.contents c.args.writer.now.inner) (g.W.Write.contents c.loop-slot.writer.inner) (g.W.Write.contents c.make_room.new.writer.inner) c.args.lines.now
          (flat_map (entry_line k) (take c.loop-slot.slot c.args.leaf.now.pairs)) c.loop-slot.lines later (flat_map (entry_line k) c.args.leaf.now.pairs) c.loop-slot.invariant
          (cut_more (g.W.Write.contents c.loop-slot.writer.inner) (g.W.Write.contents c.make_room.new.writer.inner) c.loop-slot.lines later cut.1)
          (texts_split (entry_line k) c.args.leaf.now.pairs c.loop-slot.slot),
    )

pub loop-slot-preserved : goal.loop-slot-preserved
loop-slot-preserved g c =
    let k = grammar g.B.Corners.COUNT g.B.Corners.corners g.B.Corners.fit g.B.Corners.made in
    put_more (g.W.Write.contents c.args.writer.now.inner) (g.W.Write.contents c.loop-slot.writer.inner) (g.W.Write.contents c.make_room.new.writer.inner) c.args.lines.now
    (flat_map (entry_line k) (take c.loop-slot.slot c.args.leaf.now.pairs)) c.loop-slot.lines c.make_room.new.self _ _ c.add_entry.new.self c.loop-slot.invariant
    c.in_ok-make_room.ensures.ok.1 c.add_entry.ensures (text_more (entry_line k) c.args.leaf.now.pairs c.loop-slot.slot _ c.entry-entry.ensures)
