use Rattle.std.proofs.Common.{arith, take, drop}
use Rattle.std.specs.List.{flat_map}
use Rattle.std.proofs.lemmas.Result.{err_from_is_err_and}
use Rattle.gx_script.specs.Corners.{grammar}
use Rattle.gx_script.specs.Replies.{entry_line}
use Rattle.gx_script.proofs.WriteLemmas.{put_more, put_cut, cut_more, texts_more, texts_split}
use Rattle.gx_script.proofs.replies.put_entries.Goals as goal

pub returns-in_err-make_room-clause-cut : goal.returns-in_err-make_room-clause-cut
returns-in_err-make_room-clause-cut g c =
    let k = grammar g.B.Corners.COUNT g.B.Corners.corners g.B.Corners.fit g.B.Corners.made in
    let p = err_from_is_err_and c.from_residual.result c.from_residual.ensures.1 in
    let cut = c.in_err-make_room.ensures.cut in
    let later = flat_map (entry_line k c.args.session) (drop c.loop-entry.entry-index c.args.entries.now) in
    rw (p.1, p.2) (
      cut.0,
      put_cut (g.W.Write.contents c.args.writer.now.inner) (g.W.Write.contents c.loop-entry.writer.inner) (g.W.Write.contents c.make_room.new.writer.inner) c.args.output.now
          (flat_map (entry_line k c.args.session) (take c.loop-entry.entry-index c.args.entries.now)) c.loop-entry.output later
          (flat_map (entry_line k c.args.session) c.args.entries.now) c.loop-entry.invariant
          (cut_more (g.W.Write.contents c.loop-entry.writer.inner) (g.W.Write.contents c.make_room.new.writer.inner) c.loop-entry.output later cut.1)
          (texts_split (entry_line k c.args.session) c.args.entries.now c.loop-entry.entry-index),
    )

pub loop-entry-preserved : goal.loop-entry-preserved
loop-entry-preserved g c =
    let k = grammar g.B.Corners.COUNT g.B.Corners.corners g.B.Corners.fit g.B.Corners.made in
    put_more (g.W.Write.contents c.args.writer.now.inner) (g.W.Write.contents c.loop-entry.writer.inner) (g.W.Write.contents c.make_room.new.writer.inner) c.args.output.now
    (flat_map (entry_line k c.args.session) (take c.loop-entry.entry-index c.args.entries.now)) c.loop-entry.output c.make_room.new.self
    (entry_line k c.args.session c.entry-item.result) _ c.put_entry.new.self c.loop-entry.invariant c.in_ok-make_room.ensures.ok.1 c.put_entry.ensures
    (texts_more (entry_line k c.args.session) c.args.entries.now c.loop-entry.entry-index c.entry-item.result c.entry-item.is (omega arith))
