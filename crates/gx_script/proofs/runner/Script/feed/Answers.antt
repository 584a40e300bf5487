use Rattle.std.proofs.lemmas.Grind.{common_steps}
use Rattle.std.proofs.Common.{ℕ, List, ◌∷◌, ◌++◌, refl, sym, ap, subst, length, arith, length-append}
use Rattle.std.proofs.lemmas.Result.{on_ok_weaker, err_from_is_err_and}
use Rattle.gx_script.specs.Corners.{grammar}
use Rattle.gx_script.specs.Requests.{line_of}
use Rattle.gx_script.specs.Scripts.{IsUnended}
use Rattle.gx_script.specs.Steps.{IsToldPart, IsToldWhole}
use Rattle.gx_script.proofs.LineLemmas.{unended-append, unended-kept}
use Rattle.gx_script.proofs.WriteLemmas.{cut_as}
use Rattle.gx_script.proofs.ScriptLemmas.{fed_none, fed_next, fed_cut, fed_end, fed_end_cut}
use Rattle.gx_script.proofs.runner.Script.feed.Goals as goal

pub loop-line-init : goal.loop-line-init
loop-line-init g c =
    let k = grammar g.B.Corners.COUNT g.B.Corners.corners g.B.Corners.fit g.B.Corners.made in
    record {
      unended = λ u. u;
      bound = omega arith;
      fed = λ u number done start written ran count.
          fed_none k g.I.Answers.answered number c.args.self.now.number done start c.args.index.now written (c.args.self.now.line ++ c.args.bytes.now)
          (g.W.Write.contents c.args.writer.now.inner) c.args.self.now.output ran count;
    }

pub returns-in_err-end_line-clause-cut : goal.returns-in_err-end_line-clause-cut
returns-in_err-end_line-clause-cut g c =
    let k = grammar g.B.Corners.COUNT g.B.Corners.corners g.B.Corners.fit g.B.Corners.made in
    let p = err_from_is_err_and c.from_residual.result c.from_residual.ensures.1 in
    let cut = c.in_err-end_line.ensures.cut in
    let told = subst (λ (v : List ℕ). IsToldPart k g.I.Answers.answered c.loop-line.self.number (line_of k v) c.loop-line.index c.end_line.new.index
    (g.W.Write.contents c.loop-line.writer.inner) (g.W.Write.contents c.end_line.new.writer.inner) c.loop-line.self.output) c.keep.ensures cut.1 in
    rw (p.1, p.2) (
      cut.0,
      λ u number done start written ran count.
          let so_far = c.loop-line.invariant.fed u number done start written ran count in
          fed_cut k g.I.Answers.answered number c.loop-line.self.number done start c.loop-line.index c.end_line.new.index written
          (c.args.self.now.line ++ c.args.bytes.now) c.loop-line.self.line c.loop-line.rest.now c.in-Some.line.now c.in-Some.more.now
          (g.W.Write.contents c.args.writer.now.inner) (g.W.Write.contents c.loop-line.writer.inner) (g.W.Write.contents c.end_line.new.writer.inner) c.loop-line.self.output
          so_far.0 so_far.1 (c.loop-line.invariant.unended u) c.in-Some.ensures.0 c.in-Some.ensures.1 told,
    )

pub loop-line-preserved : goal.loop-line-preserved
loop-line-preserved g c =
    let k = grammar g.B.Corners.COUNT g.B.Corners.corners g.B.Corners.fit g.B.Corners.made in
    let told = subst (λ (v : List ℕ). IsToldWhole k g.I.Answers.answered c.loop-line.self.number (line_of k v) c.loop-line.index c.end_line.new.index
    (g.W.Write.contents c.loop-line.writer.inner) (g.W.Write.contents c.end_line.new.writer.inner) c.loop-line.self.output c.end_line.new.self.output) c.keep.ensures
    c.in_ok-end_line.ensures.ok in
    record {
      unended = λ u. subst (λ (v : List ℕ). IsUnended v) (sym c.in_ok-end_line.ensures.line) refl;
      bound = omega (
        arith,
        c.loop-line.invariant.bound,
        c.in_ok-end_line.ensures.number,
        ap (λ (v : List ℕ). length v) c.in-Some.ensures.1,
        length-append c.in-Some.line.now (10 ∷ c.in-Some.more.now),
      );
      fed = λ u number done start written ran count.
          let so_far = c.loop-line.invariant.fed u number done start written ran count in
          fed_next k g.I.Answers.answered number c.loop-line.self.number c.end_line.new.self.number done start c.loop-line.index c.end_line.new.index written
          (c.args.self.now.line ++ c.args.bytes.now) c.loop-line.self.line c.end_line.new.self.line c.loop-line.rest.now c.in-Some.line.now c.in-Some.more.now
          (g.W.Write.contents c.args.writer.now.inner) (g.W.Write.contents c.loop-line.writer.inner) (g.W.Write.contents c.end_line.new.writer.inner) c.loop-line.self.output
          c.end_line.new.self.output so_far.0 so_far.1 (c.loop-line.invariant.unended u) c.in-Some.ensures.0 c.in-Some.ensures.1 told
          c.in_ok-end_line.ensures.line c.in_ok-end_line.ensures.number;
    }

pub returns-clause-ok : goal.returns-clause-ok
returns-clause-ok g c =
    let k = grammar g.B.Corners.COUNT g.B.Corners.corners g.B.Corners.fit g.B.Corners.made in
    on_ok_weaker c.flush.result
    (λ flushed.
    λ u number done start written ran count.
    let so_far = c.loop-line.invariant.fed u number done start written ran count in
    fed_end k g.I.Answers.answered number c.loop-line.self.number done start c.loop-line.index written (c.args.self.now.line ++ c.args.bytes.now)
    (c.loop-line.self.line ++ c.loop-line.rest.now) c.keep-2.new.self (g.W.Write.contents c.args.writer.now.inner) (g.W.Write.contents c.loop-line.writer.inner)
    (g.W.Write.contents c.flush.new.writer.inner) c.loop-line.self.output c.flush.new.self so_far.0 so_far.1
    (unended-append c.loop-line.self.line c.loop-line.rest.now (c.loop-line.invariant.unended u) c.in_default.ensures) c.keep-2.ensures flushed.0 flushed.1)
    c.flush.ensures.ok

pub returns-clause-unended : goal.returns-clause-unended
returns-clause-unended g c =
    on_ok_weaker c.flush.result
    (λ flushed.
    λ u.
    subst (λ (v : List ℕ). IsUnended v) (sym c.keep-2.ensures)
    (unended-kept (c.loop-line.self.line ++ c.loop-line.rest.now)
    (unended-append c.loop-line.self.line c.loop-line.rest.now (c.loop-line.invariant.unended u) c.in_default.ensures)))
    c.flush.ensures.ok

pub returns-clause-cut : goal.returns-clause-cut
returns-clause-cut g c =
    let k = grammar g.B.Corners.COUNT g.B.Corners.corners g.B.Corners.fit g.B.Corners.made in
    cut_as c.flush.result
    (λ cut.
    λ u number done start written ran count.
    let so_far = c.loop-line.invariant.fed u number done start written ran count in
    fed_end_cut k g.I.Answers.answered number done start c.loop-line.index written (c.args.self.now.line ++ c.args.bytes.now)
    (c.loop-line.self.line ++ c.loop-line.rest.now) (g.W.Write.contents c.args.writer.now.inner) (g.W.Write.contents c.loop-line.writer.inner)
    (g.W.Write.contents c.flush.new.writer.inner) c.loop-line.self.output so_far.0 cut)
    c.flush.ensures.cut

pub end_line-requires : goal.end_line-requires
end_line-requires g c = grind (arith, common_steps)

pub loop-line-smaller : goal.loop-line-smaller
loop-line-smaller g c = grind (arith, common_steps)
