use Rattle.std.proofs.Common.{rules}
use Rattle.gx_pool.proofs.mark.clean_frame.Goals as goal

pub loop-i-init : goal.loop-i-init
loop-i-init c = search rules
