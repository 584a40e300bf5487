use Rattle.std.proofs.Common.{◌++◌, subst}
use Rattle.std.proofs.lemmas.Result.{on_ok_weaker, err_from_is_err_and}
use Rattle.gx_node.specs.Trees.{Node}
use Rattle.gx_script.specs.Corners.{grammar}
use Rattle.gx_script.specs.Writes.{IsCut, IsPut}
use Rattle.gx_restart.specs.Text.{node_text}
use Rattle.gx_restart.proofs.Telling.{node_told, nothing_told}
use Rattle.gx_restart.proofs.Texts.{fault_as}
use Rattle.gx_restart.proofs.text.tree.dump_page.Goals as goal

pub returns-in_err-bring-clause-cut : goal.returns-in_err-bring-clause-cut
returns-in_err-bring-clause-cut g c =
    let k = grammar g.B.Corners.COUNT g.B.Corners.corners g.B.Corners.fit g.B.Corners.made in
    let p = err_from_is_err_and c.from_residual.result c.from_residual.ensures.1 in
    rw p.1 (λ l bodies i h. nothing_told k (g.W.Write.contents c.args.writer.now.inner) c.args.lines.now c.args.page _)

pub returns-clause-text : goal.returns-clause-text
returns-clause-text g c =
    let k = grammar g.B.Corners.COUNT g.B.Corners.corners g.B.Corners.fit g.B.Corners.made in
    on_ok_weaker c.put_page.result
    (λ put l bodies i h.
    subst (λ (n : Node _). IsPut (g.W.Write.contents c.args.writer.now.inner) (g.W.Write.contents c.put_page.new.writer.inner) c.args.lines.now (node_text k c.args.page n) c.put_page.new.lines)
    (node_told _ g.K.ReadKeys.is_proper g.K.ReadKeys.said g.K.KeyClass _ l c.args.page c.args.engine.now c.bring.new.engine c.held_page.result.now c.requires.from c.requires.to c.in_ok-bring.ensures.brought
    (c.a_volume_shows_the_logs_tree.ensures l c.bring.new.engine.volume) c.held_page.ensures bodies i h) put)
    c.put_page.ensures.ok

pub returns-clause-cut : goal.returns-clause-cut
returns-clause-cut g c =
    let k = grammar g.B.Corners.COUNT g.B.Corners.corners g.B.Corners.fit g.B.Corners.made in
    fault_as c.put_page.result
    (λ cut l bodies i h.
    subst (λ (n : Node _). IsCut (g.W.Write.contents c.args.writer.now.inner) (g.W.Write.contents c.put_page.new.writer.inner) (c.args.lines.now ++ node_text k c.args.page n))
    (node_told _ g.K.ReadKeys.is_proper g.K.ReadKeys.said g.K.KeyClass _ l c.args.page c.args.engine.now c.bring.new.engine c.held_page.result.now c.requires.from c.requires.to c.in_ok-bring.ensures.brought
    (c.a_volume_shows_the_logs_tree.ensures l c.bring.new.engine.volume) c.held_page.ensures bodies i h) cut)
    c.put_page.ensures.cut
