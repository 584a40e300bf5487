use Rattle.std.proofs.Common.{◌≡◌, ◌≤◌, ℕ, List, ◌++◌}
use Rattle.std.specs.Io.KnownBytes.{Appends}
use Rattle.gx_script.proofs.output.write_whole.Given as goal

-- a front is written, and each turn made a call
abbrev pub invariant-loop-turn : goal.invariant-loop-turn
invariant-loop-turn g l = record {
  wrote : (sent : List ℕ) × Appends (g.W.Write.contents l.initial.writer.inner) (g.W.Write.contents l.writer.inner) sent × (l.initial.bytes ≡ sent ++ l.rest);
  calls : l._turn ≤ l.writer.calls;
}
