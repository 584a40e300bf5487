use Rattle.std.proofs.lemmas.Result.{err_from_is_err_and}
use Rattle.gx_glog.proofs.Turning.{turn_made, turn_made_may, turn_failed, turn_failed_may}
use Rattle.std.proofs.Common.{refl}
use Rattle.gx_glog.proofs.filling.Glog.turn_step.Goals as goal

pub returns-clause-keeps : goal.returns-clause-keeps
returns-clause-keeps g c = λ honest on. turn_made _ _ _ _ _ c.requires.idle c.requires.quiet c.requires.head c.in_ok-call.ensures.call_is c.advance_turn.ensures (c.in_ok-call.ensures.call honest) on

pub returns-clause-may_turn : goal.returns-clause-may_turn
returns-clause-may_turn g c = λ honest may. turn_made_may _ _ _ _ _ c.requires.idle c.requires.quiet c.requires.head c.in_ok-call.ensures.call_is c.advance_turn.ensures (c.in_ok-call.ensures.call honest) may

pub returns-in_err-call-clause-keeps : goal.returns-in_err-call-clause-keeps
returns-in_err-call-clause-keeps g c = λ honest on.
    let p = err_from_is_err_and c.from_residual.result c.from_residual.ensures.1 in
    rw (p.1, p.2) (turn_failed _ _ _ _ _ c.requires.idle refl (c.in_err-call.ensures.call honest) on)

pub returns-in_err-call-clause-may_turn : goal.returns-in_err-call-clause-may_turn
returns-in_err-call-clause-may_turn g c = λ honest may.
    let p = err_from_is_err_and c.from_residual.result c.from_residual.ensures.1 in
    rw (p.1, p.2) (turn_failed_may _ _ _ _ _ c.requires.idle refl (c.in_err-call.ensures.call honest) may)
