-- How a session's work is lent.
use Rattle.std.specs.Prelude.{ℕ, ◌-◌}
use Rattle.std.specs.Borrow.{Fml, Lends, MutBor, RattleType}
use Rattle.gx_machine.specs.Keys.{Members}
use Rattle.gx_phases.specs.declared.phase.Phase.{Phase}
use Rattle.gx_phases.specs.contracts.phase.Phase as a_phase
use Rattle.gx_phases.specs.contracts.sessions.Sessions as all_sessions
use Rattle.gx_phases.specs.Moves.{with_work}
use Rattle.gx_phases.specs.States.{State, phase_at, with_phase_of}

module _ (B W : RattleType) where
  -- a phase ends with the last work behind r
  abbrev pub lends_work : MutBor (Phase B.Denot W.Denot) → MutBor W.Denot → Fml
  lends_work p r = Lends (a_phase.the_row B W) W p r (λ work. (with_work work p.now).1)

  -- sessions end with the last work behind r as this session's
  module _ (shape : Members B.Denot) where
    abbrev row : RattleType
    row =
        all_sessions.the_row B W (record { overlap = shape.overlap; inside = shape.inside }) (record { cmp = shape.cmp }) (record { eq = shape.eq })
        (record { partial_cmp = shape.partial_cmp })

    abbrev pub lends_work_of : ℕ → MutBor (State B.Denot W.Denot) → MutBor W.Denot → Fml
    lends_work_of s p r = Lends row W p r (λ work. with_phase_of s (with_work work (phase_at (s - 1) p.now.phases)).1 p.now)
