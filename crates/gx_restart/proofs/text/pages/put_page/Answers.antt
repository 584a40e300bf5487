use Rattle.std.proofs.Common.{refl, sym, ◌∙◌}
use Rattle.std.proofs.lemmas.Result.{on_ok_weaker, err_from_is_err_and}
use Rattle.gx_node.specs.Reading.{format_of}
use Rattle.gx_node.specs.Store.{node_of}
use Rattle.gx_script.specs.Corners.{grammar}
use Rattle.gx_script.proofs.WriteLemmas.{cut_more, put_cut, put_then}
use Rattle.gx_restart.specs.Text.{node_text}
use Rattle.gx_restart.proofs.text.pages.Nodes.{told_inner}
use Rattle.gx_restart.proofs.Texts.{line_put, stop_as, told_as_inner, told_as_leaf}
use Rattle.gx_restart.proofs.text.pages.put_page.Goals as goal

pub returns-in_err-make_room-clause-cut : goal.returns-in_err-make_room-clause-cut
returns-in_err-make_room-clause-cut g c =
    let k = grammar g.B.Corners.COUNT g.B.Corners.corners g.B.Corners.fit g.B.Corners.made in
    let p = err_from_is_err_and c.from_residual.result c.from_residual.ensures.1 in
    let cut = c.in_err-make_room.ensures.cut in
    rw (p.1, p.2) (
      cut.0,
      cut_more (g.W.Write.contents c.args.writer.now.inner) (g.W.Write.contents c.make_room.new.writer.inner) c.args.lines.now (node_text k c.args.number (node_of (format_of g.K.KeyClass) c.args.page.now)) cut.1,
    )

pub of-requires-else-level-eq0 : goal.of-requires-else-level-eq0
of-requires-else-level-eq0 g c =
    told_inner (format_of g.K.KeyClass) c.args.page.now c.requires c.count-count.ensures.well_formed (λ bottom. c.if-level-eq0.false (c.level-2.ensures ∙ bottom))

pub returns-then-level-eq0-clause-ok : goal.returns-then-level-eq0-clause-ok
returns-then-level-eq0-clause-ok g c =
    let k = grammar g.B.Corners.COUNT g.B.Corners.corners g.B.Corners.fit g.B.Corners.made in
    let old = g.W.Write.contents c.args.writer.now.inner in
    let middle = g.W.Write.contents c.make_room.new.writer.inner in
    let line = line_put old middle c.args.lines.now c.make_room.new.self _ c.add_page.new.self c.in_ok-make_room.ensures.ok.1 c.add_page.ensures in
    let text =
    told_as_leaf k (format_of g.K.KeyClass) c.args.number c.args.page.now c.level.result c.nsn.result c.right.result c.count-count.result c.level.ensures c.nsn.ensures c.right.ensures
    c.count-count.ensures.count (sym c.level-2.ensures ∙ c.if-level-eq0.true) c.of.result c.of.ensures in
    on_ok_weaker c.put_pairs.result (λ put. put_then old middle (g.W.Write.contents c.put_pairs.new.writer.inner) c.args.lines.now _ c.add_page.new.self _ _ c.put_pairs.new.lines line put text) c.put_pairs.ensures.ok

pub returns-then-level-eq0-clause-cut : goal.returns-then-level-eq0-clause-cut
returns-then-level-eq0-clause-cut g c =
    let k = grammar g.B.Corners.COUNT g.B.Corners.corners g.B.Corners.fit g.B.Corners.made in
    let old = g.W.Write.contents c.args.writer.now.inner in
    let middle = g.W.Write.contents c.make_room.new.writer.inner in
    let line = line_put old middle c.args.lines.now c.make_room.new.self _ c.add_page.new.self c.in_ok-make_room.ensures.ok.1 c.add_page.ensures in
    let text =
    told_as_leaf k (format_of g.K.KeyClass) c.args.number c.args.page.now c.level.result c.nsn.result c.right.result c.count-count.result c.level.ensures c.nsn.ensures c.right.ensures
    c.count-count.ensures.count (sym c.level-2.ensures ∙ c.if-level-eq0.true) c.of.result c.of.ensures in
    stop_as c.put_pairs.result _ (λ cut. (refl, put_cut old middle (g.W.Write.contents c.put_pairs.new.writer.inner) c.args.lines.now _ c.add_page.new.self _ _ line cut text)) c.put_pairs.ensures.cut

pub returns-else-level-eq0-clause-ok : goal.returns-else-level-eq0-clause-ok
returns-else-level-eq0-clause-ok g c =
    let k = grammar g.B.Corners.COUNT g.B.Corners.corners g.B.Corners.fit g.B.Corners.made in
    let old = g.W.Write.contents c.args.writer.now.inner in
    let middle = g.W.Write.contents c.make_room.new.writer.inner in
    let line = line_put old middle c.args.lines.now c.make_room.new.self _ c.add_page.new.self c.in_ok-make_room.ensures.ok.1 c.add_page.ensures in
    let text =
    told_as_inner k (format_of g.K.KeyClass) c.args.number c.args.page.now c.level.result c.nsn.result c.right.result c.count-count.result c.level.ensures c.nsn.ensures c.right.ensures
    c.count-count.ensures.count (λ bottom. c.if-level-eq0.false (c.level-2.ensures ∙ bottom)) c.of-else-level-eq0.result c.of-else-level-eq0.ensures in
    on_ok_weaker c.put_children.result (λ put. put_then old middle (g.W.Write.contents c.put_children.new.writer.inner) c.args.lines.now _ c.add_page.new.self _ _ c.put_children.new.lines line put text) c.put_children.ensures.ok

pub returns-else-level-eq0-clause-cut : goal.returns-else-level-eq0-clause-cut
returns-else-level-eq0-clause-cut g c =
    let k = grammar g.B.Corners.COUNT g.B.Corners.corners g.B.Corners.fit g.B.Corners.made in
    let old = g.W.Write.contents c.args.writer.now.inner in
    let middle = g.W.Write.contents c.make_room.new.writer.inner in
    let line = line_put old middle c.args.lines.now c.make_room.new.self _ c.add_page.new.self c.in_ok-make_room.ensures.ok.1 c.add_page.ensures in
    let text =
    told_as_inner k (format_of g.K.KeyClass) c.args.number c.args.page.now c.level.result c.nsn.result c.right.result c.count-count.result c.level.ensures c.nsn.ensures c.right.ensures
    c.count-count.ensures.count (λ bottom. c.if-level-eq0.false (c.level-2.ensures ∙ bottom)) c.of-else-level-eq0.result c.of-else-level-eq0.ensures in
    stop_as c.put_children.result _ (λ cut. (refl, put_cut old middle (g.W.Write.contents c.put_children.new.writer.inner) c.args.lines.now _ c.add_page.new.self _ _ line cut text)) c.put_children.ensures.cut
