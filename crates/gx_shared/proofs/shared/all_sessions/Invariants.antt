use Rattle.std.specs.Prelude.{◌≡◌, ◌+◌}
use Rattle.gx_shared.specs.Sharing.{fresh_sessions}
use Rattle.gx_shared.proofs.shared.all_sessions.Given as goal

abbrev pub invariant-loop-place : goal.invariant-loop-place
invariant-loop-place g l = (l.all.parts + l.place ≡ 8) × (l.all.amount ≡ 0) × (l.sessions.items ≡ fresh_sessions l.place)
