use Rattle.std.proofs.Common.{◌≡◌, ◌+◌, ◌≤◌, ◌*◌, length}
use Rattle.gx_script.specs.Corners.{grammar}
use Rattle.gx_script.proofs.ScriptLemmas.{IsReached}
use Rattle.gx_script.proofs.runner.run.Given as goal

-- what was read was fed, and all its text is written
abbrev pub invariant-loop-turn : goal.invariant-loop-turn
invariant-loop-turn g l =
    let k = grammar g.B.Corners.COUNT g.B.Corners.corners g.B.Corners.fit g.B.Corners.made in
    record {
      calls : l._turn ≤ l.reader.calls;
      room : length l.buffer ≡ 16384;
      so_far : IsReached k g.I.Answers.answered l.initial.index l.index (g.R.Read.remaining l.initial.reader.inner) (g.R.Read.remaining l.reader.inner)
          (g.W.Write.contents l.initial.writer.inner) (g.W.Write.contents l.writer.inner) l.script.line l.script.output l.script.number (1 + l._turn * 16384);
    }
