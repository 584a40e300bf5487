use Rattle.std.proofs.Common.{◌≤◌, ◌+◌, ◌*◌, ℕ, List, sym, subst, length, arith}
use Rattle.std.specs.Io.KnownBytes.{Consumes}
use Rattle.std.proofs.KnownBytes.{Keeps-refl}
use Rattle.std.proofs.lemmas.Result.{on_ok_weaker, err_from_is_err_and}
use Rattle.gx_script.specs.Corners.{grammar}
use Rattle.gx_script.specs.declared.fault.ScriptFault.{ScriptFault}
use Rattle.gx_script.specs.declared.noted.Transfer.{Transfer}
use Rattle.gx_script.specs.Scripts.{IsStopped}
use Rattle.gx_script.specs.Noting.{IsGiven}
use Rattle.gx_script.proofs.WriteLemmas.{stop_as}
use Rattle.gx_script.proofs.ScriptLemmas.{reached_start, reached_kept, reached_more, stopped_by_read, done_at_end, stopped_at_end, stopped_at_piece}
use Rattle.gx_script.proofs.runner.run.Goals as goal
use Rattle.gx_script.proofs.runner.run.Goals.{in-Interrupted, in-Moved+in_ok-feed-in-Moved}

pub loop-turn-init : goal.loop-turn-init
loop-turn-init g c =
    let k = grammar g.B.Corners.COUNT g.B.Corners.corners g.B.Corners.fit g.B.Corners.made in
    record {
      calls = omega arith;
      room = c.blank-buffer.ensures;
      so_far = reached_start k g.I.Answers.answered c.args.index.now (g.R.Read.remaining c.args.reader.now.inner) (g.W.Write.contents c.args.writer.now.inner)
          c.new-script.result.line c.new-script.result.output c.new-script.result.number 1 c.new-script.ensures.line c.new-script.ensures.output
          c.new-script.ensures.number (omega (arith, c.new-script.ensures.number));
    }

pub returns-in-Failed-clause-stopped : goal.returns-in-Failed-clause-stopped
returns-in-Failed-clause-stopped g c =
    let k = grammar g.B.Corners.COUNT g.B.Corners.corners g.B.Corners.fit g.B.Corners.made in
    let kept = subst (λ (p : Transfer). IsGiven (g.R.Read.remaining c.loop-turn.reader.inner) (g.R.Read.remaining c.read.new.self.inner) c.read.new.buffer p)
    c.in-Failed.is c.read.ensures.given in
    stopped_by_read k g.I.Answers.answered c.args.index.now c.loop-turn.index c.loop-turn.invariant.so_far.input c.loop-turn.script.line c.loop-turn.script.output
    (g.R.Read.remaining c.args.reader.now.inner) (g.R.Read.remaining c.loop-turn.reader.inner) (g.R.Read.remaining c.read.new.self.inner)
    (g.W.Write.contents c.args.writer.now.inner) (g.W.Write.contents c.loop-turn.writer.inner) c.loop-turn.invariant.so_far.read kept
    c.loop-turn.invariant.so_far.fed c.loop-turn.invariant.so_far.unended c.loop-turn.invariant.so_far.none

pub finish-requires : goal.finish-requires
finish-requires g c = omega (arith, c.loop-turn.invariant.so_far.bound, c.loop-turn-test.true)

pub returns-in-Nothing-clause-done : goal.returns-in-Nothing-clause-done
returns-in-Nothing-clause-done g c =
    let k = grammar g.B.Corners.COUNT g.B.Corners.corners g.B.Corners.fit g.B.Corners.made in
    let given = subst (λ (p : Transfer). IsGiven (g.R.Read.remaining c.loop-turn.reader.inner) (g.R.Read.remaining c.read.new.self.inner) c.read.new.buffer p)
    c.in-Nothing.is c.read.ensures.given in
    on_ok_weaker c.finish.result
    (λ ended.
    done_at_end k g.I.Answers.answered c.args.index.now c.loop-turn.index c.finish.new.index c.loop-turn.invariant.so_far.input c.loop-turn.script.line
    c.loop-turn.script.output (g.R.Read.remaining c.args.reader.now.inner) (g.R.Read.remaining c.loop-turn.reader.inner) (g.R.Read.remaining c.read.new.self.inner)
    (g.W.Write.contents c.args.writer.now.inner) (g.W.Write.contents c.loop-turn.writer.inner) (g.W.Write.contents c.finish.new.writer.inner) c.loop-turn.invariant.so_far.read
    given.0 given.1 c.loop-turn.invariant.so_far.fed
    (ended c.loop-turn.invariant.so_far.unended 1 c.loop-turn.invariant.so_far.fed.more c.args.index.now c.loop-turn.invariant.so_far.fed.sent c.loop-turn.invariant.so_far.fed.ran
    c.loop-turn.invariant.so_far.count))
    c.finish.ensures.ok

pub returns-in-Nothing-clause-stopped : goal.returns-in-Nothing-clause-stopped
returns-in-Nothing-clause-stopped g c =
    let k = grammar g.B.Corners.COUNT g.B.Corners.corners g.B.Corners.fit g.B.Corners.made in
    let given = subst (λ (p : Transfer). IsGiven (g.R.Read.remaining c.loop-turn.reader.inner) (g.R.Read.remaining c.read.new.self.inner) c.read.new.buffer p)
    c.in-Nothing.is c.read.ensures.given in
    stop_as c.finish.result
    (λ (e : ScriptFault). IsStopped k g.I.Answers.answered (g.R.Read.remaining c.args.reader.now.inner) (g.R.Read.remaining c.read.new.self.inner)
    (g.W.Write.contents c.args.writer.now.inner) (g.W.Write.contents c.finish.new.writer.inner) c.args.index.now c.finish.new.index e)
    (λ ended.
    stopped_at_end k g.I.Answers.answered c.args.index.now c.loop-turn.index c.finish.new.index c.loop-turn.invariant.so_far.input c.loop-turn.script.line
    c.loop-turn.script.output (g.R.Read.remaining c.args.reader.now.inner) (g.R.Read.remaining c.loop-turn.reader.inner) (g.R.Read.remaining c.read.new.self.inner)
    (g.W.Write.contents c.args.writer.now.inner) (g.W.Write.contents c.loop-turn.writer.inner) (g.W.Write.contents c.finish.new.writer.inner) c.loop-turn.invariant.so_far.read
    given.0 given.1 c.loop-turn.invariant.so_far.fed
    (ended c.loop-turn.invariant.so_far.unended 1 c.loop-turn.invariant.so_far.fed.more c.args.index.now c.loop-turn.invariant.so_far.fed.sent c.loop-turn.invariant.so_far.fed.ran
    c.loop-turn.invariant.so_far.count))
    c.finish.ensures.cut

pub feed-requires : goal.feed-requires
feed-requires g c =
    let given = subst (λ (p : Transfer). IsGiven (g.R.Read.remaining c.loop-turn.reader.inner) (g.R.Read.remaining c.read.new.self.inner) c.read.new.buffer p)
    c.in-Moved.is c.read.ensures.given in
    let short : c.in-Moved.count ≤ length c.read.new.buffer = given.0 in
    omega (arith, c.loop-turn.invariant.so_far.bound, c.loop-turn.invariant.room, c.loop-turn-test.true, c.split_at.ensures.front_len, c.read.auto.buffer)

pub returns-in_err-feed-in-Moved-clause-stopped : goal.returns-in_err-feed-in-Moved-clause-stopped
returns-in_err-feed-in-Moved-clause-stopped g c =
    let k = grammar g.B.Corners.COUNT g.B.Corners.corners g.B.Corners.fit g.B.Corners.made in
    let given = subst (λ (p : Transfer). IsGiven (g.R.Read.remaining c.loop-turn.reader.inner) (g.R.Read.remaining c.read.new.self.inner) c.read.new.buffer p)
    c.in-Moved.is c.read.ensures.given in
    let piece = subst (λ (x : List ℕ). Consumes (g.R.Read.remaining c.loop-turn.reader.inner) (g.R.Read.remaining c.read.new.self.inner) x)
    (sym c.split_at.ensures.front) given.1 in
    let p = err_from_is_err_and c.from_residual.result c.from_residual.ensures.1 in
    let cut = c.in_err-feed-in-Moved.ensures.cut in
    rw (p.1, p.2)
    (subst (λ (e : ScriptFault). IsStopped k g.I.Answers.answered (g.R.Read.remaining c.args.reader.now.inner) (g.R.Read.remaining c.read.new.self.inner)
    (g.W.Write.contents c.args.writer.now.inner) (g.W.Write.contents c.feed.new.writer.inner) c.args.index.now c.feed.new.index e) (sym cut.0)
    (stopped_at_piece k g.I.Answers.answered c.args.index.now c.loop-turn.index c.feed.new.index c.loop-turn.invariant.so_far.input c.loop-turn.script.line
    c.split_at.result.0.now c.loop-turn.script.output (g.R.Read.remaining c.args.reader.now.inner) (g.R.Read.remaining c.loop-turn.reader.inner)
    (g.R.Read.remaining c.read.new.self.inner) (g.W.Write.contents c.args.writer.now.inner) (g.W.Write.contents c.loop-turn.writer.inner)
    (g.W.Write.contents c.feed.new.writer.inner) c.loop-turn.invariant.so_far.read piece c.loop-turn.invariant.so_far.fed
    (cut.1 c.loop-turn.invariant.so_far.unended 1 c.loop-turn.invariant.so_far.fed.more c.args.index.now c.loop-turn.invariant.so_far.fed.sent c.loop-turn.invariant.so_far.fed.ran
    c.loop-turn.invariant.so_far.count)))

pub loop-turn-preserved : goal.loop-turn-preserved
loop-turn-preserved g c =
    let k = grammar g.B.Corners.COUNT g.B.Corners.corners g.B.Corners.fit g.B.Corners.made in
    record {
      calls = omega (arith, c.loop-turn.invariant.calls, c.read.ensures.calls);
      room = omega (arith, c.loop-turn.invariant.room, c.read.auto.buffer);
      so_far = elim c.match-read.branch [
        | in-Interrupted w ↦
            let given = subst (λ (p : Transfer). IsGiven (g.R.Read.remaining c.loop-turn.reader.inner) (g.R.Read.remaining c.read.new.self.inner) c.read.new.buffer p)
            w.in-Interrupted.is c.read.ensures.given in
            rw (w.script-is, w.writer-is, w.index-is)
            (reached_kept k g.I.Answers.answered c.args.index.now c.loop-turn.index (g.R.Read.remaining c.args.reader.now.inner) (g.R.Read.remaining c.loop-turn.reader.inner)
            (g.R.Read.remaining c.read.new.self.inner) (g.W.Write.contents c.args.writer.now.inner) (g.W.Write.contents c.loop-turn.writer.inner) c.loop-turn.script.line
            c.loop-turn.script.output c.loop-turn.script.number (1 + c.loop-turn._turn * 16384) (1 + (c.loop-turn._turn + 1) * 16384)
            c.loop-turn.invariant.so_far given (omega arith))
        | in-Moved+in_ok-feed-in-Moved w ↦
            let given = subst (λ (p : Transfer). IsGiven (g.R.Read.remaining c.loop-turn.reader.inner) (g.R.Read.remaining c.read.new.self.inner) c.read.new.buffer p)
            w.in-Moved.is c.read.ensures.given in
            let piece = subst (λ (x : List ℕ). Consumes (g.R.Read.remaining c.loop-turn.reader.inner) (g.R.Read.remaining c.read.new.self.inner) x)
            (sym w.split_at.ensures.front) given.1 in
            let short : w.in-Moved.count ≤ length c.read.new.buffer = given.0 in
            let bound : w.feed.new.self.number ≤ 1 + (c.loop-turn._turn + 1) * 16384 =
            omega (
              arith,
              w.in_ok-feed-in-Moved.ensures.bound,
              c.loop-turn.invariant.so_far.bound,
              c.loop-turn.invariant.room,
              c.read.auto.buffer,
              w.split_at.ensures.front_len,
            ) in
            rw (w.script-is, w.writer-is, w.index-is)
            (reached_more k g.I.Answers.answered c.args.index.now c.loop-turn.index w.feed.new.index (g.R.Read.remaining c.args.reader.now.inner)
            (g.R.Read.remaining c.loop-turn.reader.inner) (g.R.Read.remaining c.read.new.self.inner) (g.W.Write.contents c.args.writer.now.inner)
            (g.W.Write.contents c.loop-turn.writer.inner) (g.W.Write.contents w.feed.new.writer.inner) c.loop-turn.script.line w.feed.new.self.line c.loop-turn.script.output
            w.feed.new.self.output w.split_at.result.0.now c.loop-turn.script.number w.feed.new.self.number (1 + c.loop-turn._turn * 16384)
            (1 + (c.loop-turn._turn + 1) * 16384) c.loop-turn.invariant.so_far piece
            (w.in_ok-feed-in-Moved.ensures.ok c.loop-turn.invariant.so_far.unended 1 c.loop-turn.invariant.so_far.fed.more c.args.index.now
            c.loop-turn.invariant.so_far.fed.sent c.loop-turn.invariant.so_far.fed.ran c.loop-turn.invariant.so_far.count)
            (w.in_ok-feed-in-Moved.ensures.unended c.loop-turn.invariant.so_far.unended) w.in_ok-feed-in-Moved.ensures.waits bound)
      ];
    }

pub returns-clause-stopped : goal.returns-clause-stopped
returns-clause-stopped g c =
    let k = grammar g.B.Corners.COUNT g.B.Corners.corners g.B.Corners.fit g.B.Corners.made in
    stopped_by_read k g.I.Answers.answered c.args.index.now c.loop-turn.index c.loop-turn.invariant.so_far.input c.loop-turn.script.line c.loop-turn.script.output
    (g.R.Read.remaining c.args.reader.now.inner) (g.R.Read.remaining c.loop-turn.reader.inner) (g.R.Read.remaining c.loop-turn.reader.inner)
    (g.W.Write.contents c.args.writer.now.inner) (g.W.Write.contents c.loop-turn.writer.inner) c.loop-turn.invariant.so_far.read (Keeps-refl (g.R.Read.remaining c.loop-turn.reader.inner))
    c.loop-turn.invariant.so_far.fed c.loop-turn.invariant.so_far.unended c.loop-turn.invariant.so_far.none
