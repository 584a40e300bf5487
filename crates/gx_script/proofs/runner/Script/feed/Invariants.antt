use Rattle.std.proofs.Common.{◌≡◌, ◌+◌, ◌≤◌, ◌++◌, length}
use Rattle.gx_script.specs.Corners.{grammar}
use Rattle.gx_script.specs.Scripts.{IsUnended}
use Rattle.gx_script.specs.Steps.{IsFed, Feeds}
use Rattle.gx_script.proofs.runner.Script.feed.Given as goal

-- the lines before the rest were fed, and the rest follows the line that was begun
abbrev pub invariant-loop-line : goal.invariant-loop-line
invariant-loop-line g l =
    let k = grammar g.B.Corners.COUNT g.B.Corners.corners g.B.Corners.fit g.B.Corners.made in
    record {
      unended : IsUnended l.initial.self.line → IsUnended l.self.line;
      bound : l.self.number + length l.rest ≤ l.initial.self.number + length l.initial.bytes;
      fed : IsUnended l.initial.self.line → Feeds k g.I.Answers.answered l.initial.self.number l.initial.index l.initial.self.output (λ number done start written.
          (fed : IsFed k g.I.Answers.answered number done start written (l.initial.self.line ++ l.initial.bytes) (l.self.line ++ l.rest)
          (g.W.Write.contents l.initial.writer.inner) (g.W.Write.contents l.writer.inner) l.self.output l.index)
          × (l.self.number ≡ number + length (done ++ fed.more)));
    }

abbrev pub decreases-loop-line : goal.decreases-loop-line
decreases-loop-line g l = length l.rest
