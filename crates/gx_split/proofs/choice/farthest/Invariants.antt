use Rattle.std.proofs.Common.{◌≡◌, ◌<◌, ◌^◌, true, map}
use Rattle.gx_split.specs.Waiting.{gap_of}
use Rattle.gx_split.proofs.Steps.{IsWidest}
use Rattle.gx_split.proofs.choice.farthest.Given as goal

abbrev pub invariant-loop-place : goal.invariant-loop-place
invariant-loop-place g l = record { is : IsWidest (map gap_of l.waiting) l.place l.widest; short : g.M.Measure.SHORT ≡ true → l.widest.apart < 2 ^ 64 }
