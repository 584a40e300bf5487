use Rattle.std.proofs.Common.{Err, Ok}
use Rattle.gx_commands.proofs.verifying.Shown.{shown_of, so_told}
use Rattle.gx_commands.proofs.verifying.verify_over.Goals as goal

pub returns-in-Ok : goal.returns-in-Ok
returns-in-Ok g c = record { result = Ok c.in-Ok.report; verifies = c.in-Ok.ensures.told; told = c.tell_report.ensures }

pub returns-in-Err : goal.returns-in-Err
returns-in-Err g c = record {
  result = Err c.in-Err.refused.why;
  verifies = c.in-Err.ensures.told;
  told = so_told _ _ c.in-Err.refused.why
      (λ is found finds honest. shown_of _ g.K.ReadKeys.is_proper g.K.ReadKeys.said g.K.KeyClass _ (g.D.SectorDisk.state c.args.disk.now) c.in-Err.refused is (c.in-Err.ensures.damaged honest is) (c.in-Err.ensures.copy honest) found finds) _ _ _ c.refuse_verified.ensures;
}
