use Rattle.std.proofs.Common.{refl}
use Rattle.std.proofs.lemmas.Result.{err_from_is_err_and}
use Rattle.gx_glog.proofs.Stepping.{call_made, call_failed}
use Rattle.gx_glog.proofs.filling.Glog.make.Goals as goal

pub returns-in_err-stage-clause-keeps : goal.returns-in_err-stage-clause-keeps
returns-in_err-stage-clause-keeps g c = λ honest on.
    let p = err_from_is_err_and c.from_residual.result c.from_residual.ensures.1 in
    rw (p.1, p.2) (call_failed _ _ _ _ _ c.requires.flying refl (c.in_err-stage.ensures.call honest) on)

pub returns-clause-keeps : goal.returns-clause-keeps
returns-clause-keeps g c = λ honest on. call_made _ _ _ _ _ c.requires.flying c.in_ok-stage.ensures.stage c.advance.ensures (c.in_ok-stage.ensures.call honest) on
