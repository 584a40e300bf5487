use Rattle.std.proofs.Common.{◌≡◌, ◌≤◌}
use Rattle.gx_pool.specs.State.{held_clean}
use Rattle.gx_pool.proofs.frames.Frames.held_clean.Given as goal

abbrev pub invariant-loop-k : goal.invariant-loop-k
invariant-loop-k l = record { counted : l.count ≡ held_clean l.self l.k; few : l.count ≤ l.k }
