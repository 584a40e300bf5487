use Rattle.std.proofs.Common.{◌+◌, ◌++◌, refl, sym, ◌∙◌, arith, Err}
use Rattle.std.proofs.lemmas.Result.{on_ok_weaker, err_from_is_err_and}
use Rattle.gx_machine.specs.Keys.{Members}
use Rattle.gx_node.specs.Reading.{format_of, is_node}
use Rattle.gx_durable.specs.Classes.{class_of, reading_of}
use Rattle.gx_script.specs.Corners.{grammar}
use Rattle.gx_script.specs.Writes.{IsCut, IsPut}
use Rattle.gx_restart.specs.declared.text.stop.Stop.TheVariants as stop
use Rattle.gx_restart.specs.Text.{node_text}
use Rattle.gx_restart.proofs.text.tree.Ending.{only_write, read_ends}
use Rattle.gx_restart.proofs.Bringing.{all_read, all_used, brings, helps, read_keeps, read_run}
use Rattle.gx_restart.proofs.Reading.{nothing_read}
use Rattle.gx_restart.proofs.Telling.{all_told, head_cut, head_told, last_cut, later, one_more, page_cut, page_told, stopped}
use Rattle.gx_restart.proofs.Texts.{fault_as}
use Rattle.gx_restart.proofs.text.tree.dump.Goals as goal

pub returns-in_err-put_head-clause-cut : goal.returns-in_err-put_head-clause-cut
returns-in_err-put_head-clause-cut g c =
    let k = grammar g.B.Corners.COUNT g.B.Corners.corners g.B.Corners.fit g.B.Corners.made in
    let p = err_from_is_err_and c.from_residual.result c.from_residual.ensures.1 in
    rw p.1 (λ l bodies i h.
    head_cut k c.args.engine.now.sessions.latest _ (g.W.Write.contents c.args.writer.now.inner) (g.W.Write.contents c.put_head.new.writer.inner) c.commits.result c.used-used.result c.counter.result
    c.commits.ensures (c.used-used.ensures ∙ sym h.keeps.used) (c.counter.ensures ∙ sym h.keeps.counter) c.new-lines.result c.new-lines.ensures c.in_err-put_head.ensures.cut.1)

pub returns-in_err-put_head-clause-runs : goal.returns-in_err-put_head-clause-runs
returns-in_err-put_head-clause-runs g c =
    let boxes : Members g.row.B.Denot = record { partial_cmp = g.B.PartialOrd.partial_cmp; eq = g.B.PartialEq.eq; cmp = g.B.Ord.cmp; overlap = g.B.Shape.overlap; inside = g.B.Shape.inside } in
    λ l bodies i h. (nothing_read (class_of boxes g.K.ReadKeys.is_proper l) (reading_of g.K.ReadKeys.said (format_of g.K.KeyClass)) (format_of g.K.KeyClass) (is_node (format_of g.K.KeyClass)) g.D.SectorDisk.state c.args.engine.now bodies i h).ran

pub loop-last-init : goal.loop-last-init
loop-last-init g c =
    let k = grammar g.B.Corners.COUNT g.B.Corners.corners g.B.Corners.fit g.B.Corners.made in
    record {
      all = refl;
      put = λ l bodies i h.
          head_told k c.args.engine.now.sessions.latest _ (g.W.Write.contents c.args.writer.now.inner) (g.W.Write.contents c.put_head.new.writer.inner) c.commits.result c.used-used.result c.counter.result
          c.commits.ensures (c.used-used.ensures ∙ sym h.keeps.used) (c.counter.ensures ∙ sym h.keeps.counter) c.new-lines.result c.put_head.new.lines c.new-lines.ensures
          c.in_ok-put_head.ensures.ok;
    }

pub dump_page-requires-clause-to : goal.dump_page-requires-clause-to
dump_page-requires-clause-to g c =
    let boxes : Members g.row.B.Denot = record { partial_cmp = g.B.PartialOrd.partial_cmp; eq = g.B.PartialEq.eq; cmp = g.B.Ord.cmp; overlap = g.B.Shape.overlap; inside = g.B.Shape.inside } in
    let used = all_used boxes g.K.ReadKeys.is_proper g.K.ReadKeys.said g.K.KeyClass g.D.SectorDisk.state c.loop-last.last c.args.engine.now c.loop-last.engine c.loop-last.invariant.all in
    omega (arith, used, c.used-used.ensures, c.loop-last-test.true)

pub returns-in_err-dump_page-clause-read : goal.returns-in_err-dump_page-clause-read
returns-in_err-dump_page-clause-read g c =
    let boxes : Members g.row.B.Denot = record { partial_cmp = g.B.PartialOrd.partial_cmp; eq = g.B.PartialEq.eq; cmp = g.B.Ord.cmp; overlap = g.B.Shape.overlap; inside = g.B.Shape.inside } in
    let p = err_from_is_err_and c.from_residual-in_err-dump_page.result c.from_residual-in_err-dump_page.ensures.1 in
    rw (p.1, p.2) (stopped (brings boxes g.K.ReadKeys.is_proper g.K.ReadKeys.said g.K.KeyClass g.D.SectorDisk.state) (helps boxes g.K.ReadKeys.is_proper g.K.ReadKeys.said g.K.KeyClass g.D.SectorDisk.state) c.loop-last.last c.args.engine.now c.loop-last.engine c.dump_page.new.engine c.loop-last.invariant.all c.in_err-dump_page.field-0.0 (omega (arith, c.used-used.ensures, c.loop-last-test.true))
    c.in_err-dump_page.ensures.told)

pub returns-in_err-dump_page-clause-cut : goal.returns-in_err-dump_page-clause-cut
returns-in_err-dump_page-clause-cut g c =
    let k = grammar g.B.Corners.COUNT g.B.Corners.corners g.B.Corners.fit g.B.Corners.made in
    let boxes : Members g.row.B.Denot = record { partial_cmp = g.B.PartialOrd.partial_cmp; eq = g.B.PartialEq.eq; cmp = g.B.Ord.cmp; overlap = g.B.Shape.overlap; inside = g.B.Shape.inside } in
    let p = err_from_is_err_and c.from_residual-in_err-dump_page.result c.from_residual-in_err-dump_page.ensures.1 in
    rw p.1 (λ l bodies i h.
    page_cut k c.args.engine.now.sessions.latest _ (g.W.Write.contents c.args.writer.now.inner) (g.W.Write.contents c.loop-last.writer.inner) (g.W.Write.contents c.dump_page.new.writer.inner) c.loop-last.last
    c.loop-last.lines (omega (arith, h.keeps.used, c.used-used.ensures, c.loop-last-test.true)) (c.loop-last.invariant.put l bodies i h)
    (later boxes g.K.ReadKeys.is_proper g.K.ReadKeys.said g.K.KeyClass g.D.SectorDisk.state l c.loop-last.last c.args.engine.now c.loop-last.engine
    (λ t. IsCut (g.W.Write.contents c.loop-last.writer.inner) (g.W.Write.contents c.dump_page.new.writer.inner) (c.loop-last.lines ++ node_text k (c.loop-last.last + 1) (t.node (c.loop-last.last + 1)))) c.loop-last.invariant.all (c.in_err-dump_page.ensures.cut l) bodies i h))

pub returns-in_err-dump_page-clause-runs : goal.returns-in_err-dump_page-clause-runs
returns-in_err-dump_page-clause-runs g c =
    let boxes : Members g.row.B.Denot = record { partial_cmp = g.B.PartialOrd.partial_cmp; eq = g.B.PartialEq.eq; cmp = g.B.Ord.cmp; overlap = g.B.Shape.overlap; inside = g.B.Shape.inside } in
    λ l.
    read_run boxes g.K.ReadKeys.is_proper g.K.ReadKeys.said g.K.KeyClass g.D.SectorDisk.state l (Err c.in_err-dump_page.field-0.0) c.args.engine.now c.dump_page.new.engine
    (stopped (brings boxes g.K.ReadKeys.is_proper g.K.ReadKeys.said g.K.KeyClass g.D.SectorDisk.state) (helps boxes g.K.ReadKeys.is_proper g.K.ReadKeys.said g.K.KeyClass g.D.SectorDisk.state) c.loop-last.last c.args.engine.now c.loop-last.engine c.dump_page.new.engine c.loop-last.invariant.all c.in_err-dump_page.field-0.0 (omega (arith, c.used-used.ensures, c.loop-last-test.true)) c.in_err-dump_page.ensures.told)

pub returns-in_err-dump_page-clause-keeps : goal.returns-in_err-dump_page-clause-keeps
returns-in_err-dump_page-clause-keeps g c =
    let boxes : Members g.row.B.Denot = record { partial_cmp = g.B.PartialOrd.partial_cmp; eq = g.B.PartialEq.eq; cmp = g.B.Ord.cmp; overlap = g.B.Shape.overlap; inside = g.B.Shape.inside } in
    read_keeps boxes g.K.ReadKeys.is_proper g.K.ReadKeys.said g.K.KeyClass g.D.SectorDisk.state (Err c.in_err-dump_page.field-0.0) c.args.engine.now c.dump_page.new.engine
    (stopped (brings boxes g.K.ReadKeys.is_proper g.K.ReadKeys.said g.K.KeyClass g.D.SectorDisk.state) (helps boxes g.K.ReadKeys.is_proper g.K.ReadKeys.said g.K.KeyClass g.D.SectorDisk.state) c.loop-last.last c.args.engine.now c.loop-last.engine c.dump_page.new.engine c.loop-last.invariant.all c.in_err-dump_page.field-0.0 (omega (arith, c.used-used.ensures, c.loop-last-test.true)) c.in_err-dump_page.ensures.told)

pub loop-last-preserved : goal.loop-last-preserved
loop-last-preserved g c =
    let k = grammar g.B.Corners.COUNT g.B.Corners.corners g.B.Corners.fit g.B.Corners.made in
    let boxes : Members g.row.B.Denot = record { partial_cmp = g.B.PartialOrd.partial_cmp; eq = g.B.PartialEq.eq; cmp = g.B.Ord.cmp; overlap = g.B.Shape.overlap; inside = g.B.Shape.inside } in
    record {
      all = one_more (brings boxes g.K.ReadKeys.is_proper g.K.ReadKeys.said g.K.KeyClass g.D.SectorDisk.state) (helps boxes g.K.ReadKeys.is_proper g.K.ReadKeys.said g.K.KeyClass g.D.SectorDisk.state) c.loop-last.last c.args.engine.now c.loop-last.engine c.dump_page.new.engine c.loop-last.invariant.all c.in_ok-dump_page.ensures.told;
      put = λ l bodies i h.
          page_told k c.args.engine.now.sessions.latest _ (g.W.Write.contents c.args.writer.now.inner) (g.W.Write.contents c.loop-last.writer.inner) (g.W.Write.contents c.dump_page.new.writer.inner) c.loop-last.last
          c.loop-last.lines c.dump_page.new.lines (c.loop-last.invariant.put l bodies i h)
          (later boxes g.K.ReadKeys.is_proper g.K.ReadKeys.said g.K.KeyClass g.D.SectorDisk.state l c.loop-last.last c.args.engine.now c.loop-last.engine
          (λ t. IsPut (g.W.Write.contents c.loop-last.writer.inner) (g.W.Write.contents c.dump_page.new.writer.inner) c.loop-last.lines (node_text k (c.loop-last.last + 1) (t.node (c.loop-last.last + 1))) c.dump_page.new.lines) c.loop-last.invariant.all (c.in_ok-dump_page.ensures.text l) bodies i h);
    }

pub returns-clause-text : goal.returns-clause-text
returns-clause-text g c =
    let k = grammar g.B.Corners.COUNT g.B.Corners.corners g.B.Corners.fit g.B.Corners.made in
    on_ok_weaker c.flush.result
    (λ flushed l bodies i h.
    all_told k c.args.engine.now.sessions.latest _ (g.W.Write.contents c.args.writer.now.inner) (g.W.Write.contents c.loop-last.writer.inner) (g.W.Write.contents c.flush.new.writer.inner) c.loop-last.last c.loop-last.lines
    (omega (arith, h.keeps.used, c.used-used.ensures, c.loop-last-test.false, c.loop-last.auto.last-end)) (c.loop-last.invariant.put l bodies i h) flushed.1)
    c.flush.ensures.ok

pub returns-clause-cut : goal.returns-clause-cut
returns-clause-cut g c =
    let k = grammar g.B.Corners.COUNT g.B.Corners.corners g.B.Corners.fit g.B.Corners.made in
    fault_as c.flush.result
    (λ cut l bodies i h.
    last_cut k c.args.engine.now.sessions.latest _ (g.W.Write.contents c.args.writer.now.inner) (g.W.Write.contents c.loop-last.writer.inner) (g.W.Write.contents c.flush.new.writer.inner) c.loop-last.last c.loop-last.lines
    (omega (arith, h.keeps.used, c.used-used.ensures, c.loop-last-test.false, c.loop-last.auto.last-end)) (c.loop-last.invariant.put l bodies i h) cut)
    c.flush.ensures.cut

pub returns-clause-reads : goal.returns-clause-reads
returns-clause-reads g c =
    let boxes : Members g.row.B.Denot = record { partial_cmp = g.B.PartialOrd.partial_cmp; eq = g.B.PartialEq.eq; cmp = g.B.Ord.cmp; overlap = g.B.Shape.overlap; inside = g.B.Shape.inside } in
    on_ok_weaker c.flush.result (λ flushed l. all_read boxes g.K.ReadKeys.is_proper g.K.ReadKeys.said g.K.KeyClass g.D.SectorDisk.state l c.loop-last.last c.args.engine.now c.loop-last.engine c.loop-last.invariant.all) c.flush.ensures.ok

pub returns-clause-runs : goal.returns-clause-runs
returns-clause-runs g c =
    let boxes : Members g.row.B.Denot = record { partial_cmp = g.B.PartialOrd.partial_cmp; eq = g.B.PartialEq.eq; cmp = g.B.Ord.cmp; overlap = g.B.Shape.overlap; inside = g.B.Shape.inside } in
    λ l bodies i h. (all_read boxes g.K.ReadKeys.is_proper g.K.ReadKeys.said g.K.KeyClass g.D.SectorDisk.state l c.loop-last.last c.args.engine.now c.loop-last.engine c.loop-last.invariant.all bodies i h).ran

pub returns-clause-keeps : goal.returns-clause-keeps
returns-clause-keeps g c =
    let boxes : Members g.row.B.Denot = record { partial_cmp = g.B.PartialOrd.partial_cmp; eq = g.B.PartialEq.eq; cmp = g.B.Ord.cmp; overlap = g.B.Shape.overlap; inside = g.B.Shape.inside } in
    read_keeps boxes g.K.ReadKeys.is_proper g.K.ReadKeys.said g.K.KeyClass g.D.SectorDisk.state (Err stop.Write) c.args.engine.now c.loop-last.engine
    (c.loop-last.last, omega (arith, c.used-used.ensures, c.loop-last.auto.last-end), c.loop-last.invariant.all)

pub returns-in_err-put_head-clause-ends : goal.returns-in_err-put_head-clause-ends
returns-in_err-put_head-clause-ends g c =
    let p = err_from_is_err_and c.from_residual.result c.from_residual.ensures.1 in
    rw (p.1, p.2) (λ l bodies i h. only_write _ (Err c.in_err-put_head.field-0.0) c.in_err-put_head.ensures.cut)

pub returns-in_err-dump_page-clause-ends : goal.returns-in_err-dump_page-clause-ends
returns-in_err-dump_page-clause-ends g c =
    let boxes : Members g.row.B.Denot = record { partial_cmp = g.B.PartialOrd.partial_cmp; eq = g.B.PartialEq.eq; cmp = g.B.Ord.cmp; overlap = g.B.Shape.overlap; inside = g.B.Shape.inside } in
    let p = err_from_is_err_and c.from_residual-in_err-dump_page.result c.from_residual-in_err-dump_page.ensures.1 in
    let law = c.a_page_that_waits_names_work.ensures in
    rw (p.1, p.2) (λ l.
    read_ends boxes g.K.ReadKeys.is_proper g.K.ReadKeys.said g.K.KeyClass g.D.SectorDisk.state l (law.work l) law.helps law.few (Err c.in_err-dump_page.field-0.0) c.args.engine.now c.dump_page.new.engine
    (stopped (brings boxes g.K.ReadKeys.is_proper g.K.ReadKeys.said g.K.KeyClass g.D.SectorDisk.state) (helps boxes g.K.ReadKeys.is_proper g.K.ReadKeys.said g.K.KeyClass g.D.SectorDisk.state) c.loop-last.last c.args.engine.now c.loop-last.engine c.dump_page.new.engine c.loop-last.invariant.all c.in_err-dump_page.field-0.0 (omega (arith, c.used-used.ensures, c.loop-last-test.true)) c.in_err-dump_page.ensures.told))

pub returns-clause-ends : goal.returns-clause-ends
returns-clause-ends g c = λ l bodies i h. only_write _ c.flush.result c.flush.ensures.cut
