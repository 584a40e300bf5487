use Rattle.std.proofs.Common.{refl}
use Rattle.gx_phases.proofs.laws.a_fault_is_seen_by_no_session.Goals as goal

pub returns : goal.returns
returns g c =
    λ k live older old. record { live = λ e. refl; slots = refl; older = refl; oldest = refl; failed = refl }
