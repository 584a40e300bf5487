use Rattle.std.proofs.Common.{◌≡◌, ◌<◌, ℕ, sym, ◌∙◌, length, arith}
use Rattle.std.proofs.lemmas.Bool.{eqb-true, eqb-false}
use Rattle.std.proofs.lemmas.Result.{on_ok_weaker, err_from_is_err_and}
use Rattle.gx_script.specs.Corners.{grammar}
use Rattle.gx_script.proofs.WriteLemmas.{cut_as}
use Rattle.gx_script.proofs.ScriptLemmas.{ended_none, ended_none_cut, ended_one, ended_one_cut, ended_part}
use Rattle.gx_script.proofs.runner.Script.finish.Goals as goal

pub returns-then-is_empty-clause-ok : goal.returns-then-is_empty-clause-ok
returns-then-is_empty-clause-ok g c =
    let k = grammar g.B.Corners.COUNT g.B.Corners.corners g.B.Corners.fit g.B.Corners.made in
    let none = eqb-true (length c.args.self.now.line) 0 (sym c.is_empty.ensures ∙ c.if-is_empty.true) in
    on_ok_weaker c.flush.result
    (λ flushed.
    λ u number done start written ran count.
    ended_none k g.I.Answers.answered number done start c.args.index.now written c.args.self.now.line c.args.self.now.output
    (g.W.Write.contents c.args.writer.now.inner) (g.W.Write.contents c.flush.new.writer.inner) ran none flushed.1)
    c.flush.ensures.ok

pub returns-then-is_empty-clause-cut : goal.returns-then-is_empty-clause-cut
returns-then-is_empty-clause-cut g c =
    let k = grammar g.B.Corners.COUNT g.B.Corners.corners g.B.Corners.fit g.B.Corners.made in
    cut_as c.flush.result
    (λ cut.
    λ u number done start written ran count.
    ended_none_cut k g.I.Answers.answered number done start c.args.index.now written c.args.self.now.line c.args.self.now.output
    (g.W.Write.contents c.args.writer.now.inner) (g.W.Write.contents c.flush.new.writer.inner) ran cut)
    c.flush.ensures.cut

-- a length that isn't 0
some_length : (n : ℕ) → (n ≡ 0 → ⊥) → 0 < n
some_length n h = omega arith

pub returns-in_err-end_line-clause-cut : goal.returns-in_err-end_line-clause-cut
returns-in_err-end_line-clause-cut g c =
    let k = grammar g.B.Corners.COUNT g.B.Corners.corners g.B.Corners.fit g.B.Corners.made in
    let p = err_from_is_err_and c.from_residual.result c.from_residual.ensures.1 in
    let cut = c.in_err-end_line.ensures.cut in
    let some = some_length (length c.args.self.now.line) (eqb-false (length c.args.self.now.line) 0 (sym c.is_empty.ensures ∙ c.if-is_empty.false)) in
    rw (p.1, p.2) (
      cut.0,
      λ u number done start written ran count.
          ended_part k g.I.Answers.answered number c.args.self.now.number done start c.args.index.now c.end_line.new.index written c.args.self.now.line
          c.args.self.now.output (g.W.Write.contents c.args.writer.now.inner) (g.W.Write.contents c.end_line.new.writer.inner) ran count u some cut.1,
    )

pub returns-clause-ok : goal.returns-clause-ok
returns-clause-ok g c =
    let k = grammar g.B.Corners.COUNT g.B.Corners.corners g.B.Corners.fit g.B.Corners.made in
    let some = some_length (length c.args.self.now.line) (eqb-false (length c.args.self.now.line) 0 (sym c.is_empty.ensures ∙ c.if-is_empty.false)) in
    on_ok_weaker c.flush-2.result
    (λ flushed.
    λ u number done start written ran count.
    ended_one k g.I.Answers.answered number c.args.self.now.number done start c.args.index.now c.end_line.new.index written c.args.self.now.line
    c.args.self.now.output c.end_line.new.self.output (g.W.Write.contents c.args.writer.now.inner) (g.W.Write.contents c.end_line.new.writer.inner)
    (g.W.Write.contents c.flush-2.new.writer.inner) ran count u some c.in_ok-end_line.ensures.ok flushed.1)
    c.flush-2.ensures.ok

pub returns-clause-cut : goal.returns-clause-cut
returns-clause-cut g c =
    let k = grammar g.B.Corners.COUNT g.B.Corners.corners g.B.Corners.fit g.B.Corners.made in
    let some = some_length (length c.args.self.now.line) (eqb-false (length c.args.self.now.line) 0 (sym c.is_empty.ensures ∙ c.if-is_empty.false)) in
    cut_as c.flush-2.result
    (λ cut.
    λ u number done start written ran count.
    ended_one_cut k g.I.Answers.answered number c.args.self.now.number done start c.args.index.now c.end_line.new.index written c.args.self.now.line
    c.args.self.now.output c.end_line.new.self.output (g.W.Write.contents c.args.writer.now.inner) (g.W.Write.contents c.end_line.new.writer.inner)
    (g.W.Write.contents c.flush-2.new.writer.inner) ran count u some c.in_ok-end_line.ensures.ok cut)
    c.flush-2.ensures.cut
