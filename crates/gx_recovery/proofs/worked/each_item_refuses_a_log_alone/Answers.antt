use Rattle.std.proofs.Common.{refl}
use Rattle.gx_recovery.proofs.worked.each_item_refuses_a_log_alone.Goals as goal

pub returns : goal.returns
returns c = refl
