use Rattle.std.proofs.Common.{ℕ, refl, subst, rules}
use Rattle.std.proofs.lemmas.Result.{on_ok_weaker}
use Rattle.gx_script.specs.Corners.{grammar}
use Rattle.gx_script.specs.declared.line.Line.TheVariants.{Asks}
use Rattle.gx_script.specs.Replies.{reply_text}
use Rattle.gx_script.proofs.WriteLemmas.{cut_as}
use Rattle.gx_script.proofs.ScriptLemmas.{asked_whole, asked_part}
use Rattle.gx_script.proofs.runner.answer.Goals as goal

pub returns-clause-ok : goal.returns-clause-ok
returns-clause-ok g c =
    let k = grammar g.B.Corners.COUNT g.B.Corners.corners g.B.Corners.fit g.B.Corners.made in
    let flushed = c.in_ok-flush.ensures.ok in
    let answered = subst (λ (s : ℕ). g.I.Answers.answered c.args.index.now s c.args.call c.call-reply.result c.call-reply.new.self) c.index_session.ensures
    c.call-reply.ensures in
    λ number.
    on_ok_weaker c.put_reply.result
    (λ put.
    asked_whole k g.I.Answers.answered number (Asks c.args.session c.args.call) c.args.index.now c.call-reply.new.self (g.W.Write.contents c.args.writer.now.inner)
    (g.W.Write.contents c.flush.new.writer.inner) (g.W.Write.contents c.put_reply.new.writer.inner) c.args.output.now c.flush.new.self c.put_reply.new.output
    (reply_text k c.args.session c.call-reply.result) flushed.1 flushed.0 put (c.call-reply.result, answered, refl))
    c.put_reply.ensures.ok

pub returns-clause-cut : goal.returns-clause-cut
returns-clause-cut g c =
    let k = grammar g.B.Corners.COUNT g.B.Corners.corners g.B.Corners.fit g.B.Corners.made in
    let flushed = c.in_ok-flush.ensures.ok in
    let answered = subst (λ (s : ℕ). g.I.Answers.answered c.args.index.now s c.args.call c.call-reply.result c.call-reply.new.self) c.index_session.ensures
    c.call-reply.ensures in
    cut_as c.put_reply.result
    (λ cut. λ number.
    asked_part k g.I.Answers.answered number (Asks c.args.session c.args.call) c.args.index.now c.call-reply.new.self (g.W.Write.contents c.args.writer.now.inner)
    (g.W.Write.contents c.flush.new.writer.inner) (g.W.Write.contents c.put_reply.new.writer.inner) c.args.output.now c.flush.new.self
    (reply_text k c.args.session c.call-reply.result) flushed.1 flushed.0 cut (c.call-reply.result, answered, refl))
    c.put_reply.ensures.cut

pub returns-in_err-flush-clause-cut : goal.returns-in_err-flush-clause-cut
returns-in_err-flush-clause-cut g c = search rules
