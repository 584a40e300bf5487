use Rattle.std.proofs.Common.{◌≡◌, ◌≤◌, length, ap, sym, ◌∙◌}
use Rattle.gx_glog.specs.State.{Log}
use Rattle.gx_glog.specs.declared.stage.Stage.TheVariants.{Idle}
use Rattle.gx_glog.proofs.Stepping.{first_keeps}
use Rattle.gx_glog.proofs.filling.Glog.log_step.Goals as goal

pub returns-clause-keeps : goal.returns-clause-keeps
returns-clause-keeps g c =
    let idle : c.args.self.now.stage ≡ Idle = ap (λ (log : Log). log.stage) (sym c.self.view_is) ∙ c.if-is_flying.ensures.no in
    let some : 1 ≤ length c.args.self.now.filling = rw (← c.self.view_is) c.if-is_empty.ensures.some in
    λ honest on. first_keeps _ _ _ _ _ _ idle c.begin_batch.ensures some c.make-2.ensures.made (c.make-2.ensures.keeps honest) on
