use Rattle.std.proofs.Common.{◌≡◌, ap, ◌∙◌, arith}
use Rattle.std.specs.Prelude.{replicate}
use Rattle.gx_phases.specs.declared.phase.Phase.{Phase}
use Rattle.gx_phases.specs.declared.phase.Phase.TheVariants as phase
use Rattle.gx_phases.proofs.sessions.free_phases.Goals as goal

pub returns : goal.returns
returns g c =
    let all : c.loop.counter ≡ 8 = omega (arith, c.loop-test.false, c.loop.auto.counter-end) in
    let free : Phase g.row.B.Denot g.row.W.Denot = phase.Free in
    c.loop.invariant ∙ ap (λ n. replicate n free) all
