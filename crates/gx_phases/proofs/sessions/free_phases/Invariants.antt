use Rattle.std.proofs.Common.{◌≡◌}
use Rattle.std.specs.Prelude.{replicate}
use Rattle.gx_phases.specs.declared.phase.Phase.TheVariants as phase
use Rattle.gx_phases.proofs.sessions.free_phases.Given as goal

abbrev pub invariant-loop : goal.invariant-loop
invariant-loop g l = l.phases.items ≡ replicate l.counter phase.Free
