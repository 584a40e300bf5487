use Rattle.std.proofs.Common.{◌≡◌}
use Rattle.std.specs.Prelude.{take}
use Rattle.gx_restart.proofs.opening.begin.copied.Given as goal

-- so many are copied
abbrev pub invariant-loop-touch : goal.invariant-loop-touch
invariant-loop-touch g l = l.losers.items ≡ take l.touch-index l.touched
