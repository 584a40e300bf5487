use Rattle.std.proofs.Common.{[], refl, sym, ap, subst}
use Rattle.gx_script.specs.Corners.{grammar}
use Rattle.gx_script.specs.declared.line.Line.{Line}
use Rattle.gx_script.specs.Replies.{bad_line}
use Rattle.gx_script.specs.Scripts.{IsTold, is_asking}
use Rattle.gx_script.proofs.WriteLemmas.{put_nothing, put_more, cut_as}
use Rattle.gx_script.specs.Steps.{IsToldPart}
use Rattle.gx_script.proofs.ScriptLemmas.{quiet_whole}
use Rattle.gx_script.proofs.runner.run_line.Goals as goal

pub returns-in-Blank-clause-ok : goal.returns-in-Blank-clause-ok
returns-in-Blank-clause-ok g c =
    let k = grammar g.B.Corners.COUNT g.B.Corners.corners g.B.Corners.fit g.B.Corners.made in
    quiet_whole k g.I.Answers.answered c.args.number c.args.line c.args.index.now (g.W.Write.contents c.args.writer.now.inner) (g.W.Write.contents c.args.writer.now.inner)
    c.args.output.now c.args.output.now [] (put_nothing (g.W.Write.contents c.args.writer.now.inner) c.args.output.now)
    (subst (λ (l : Line g.row.B.Denot). IsTold k g.I.Answers.answered c.args.number l c.args.index.now [] c.args.index.now) (sym c.in-Blank.is) (refl, refl))
    (ap (λ l. is_asking l) c.in-Blank.is)

pub returns-in_ok-make_room-in-Bad-clause-ok : goal.returns-in_ok-make_room-in-Bad-clause-ok
returns-in_ok-make_room-in-Bad-clause-ok g c =
    let k = grammar g.B.Corners.COUNT g.B.Corners.corners g.B.Corners.fit g.B.Corners.made in
    quiet_whole k g.I.Answers.answered c.args.number c.args.line c.args.index.now (g.W.Write.contents c.args.writer.now.inner)
    (g.W.Write.contents c.make_room.new.writer.inner) c.args.output.now c.put_bad.new.self (bad_line c.args.number)
    (put_more (g.W.Write.contents c.args.writer.now.inner) (g.W.Write.contents c.args.writer.now.inner) (g.W.Write.contents c.make_room.new.writer.inner) c.args.output.now []
    c.args.output.now c.make_room.new.self (bad_line c.args.number) _ c.put_bad.new.self
    (put_nothing (g.W.Write.contents c.args.writer.now.inner) c.args.output.now) c.in_ok-make_room-in-Bad.ensures.ok.1 c.put_bad.ensures refl)
    (subst (λ (l : Line g.row.B.Denot). IsTold k g.I.Answers.answered c.args.number l c.args.index.now (bad_line c.args.number) c.args.index.now) (sym c.in-Bad.is) (refl, refl))
    (ap (λ l. is_asking l) c.in-Bad.is)

pub returns-in-Asks-clause-cut : goal.returns-in-Asks-clause-cut
returns-in-Asks-clause-cut g c =
    let k = grammar g.B.Corners.COUNT g.B.Corners.corners g.B.Corners.fit g.B.Corners.made in
    cut_as c.answer.result
    (λ cut.
    subst (λ (l : Line g.row.B.Denot). IsToldPart k g.I.Answers.answered c.args.number l c.args.index.now c.answer.new.index (g.W.Write.contents c.args.writer.now.inner)
    (g.W.Write.contents c.answer.new.writer.inner) c.args.output.now) (sym c.in-Asks.is) (cut c.args.number))
    c.answer.ensures.cut
