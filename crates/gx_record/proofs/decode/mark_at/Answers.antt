use Rattle.std.proofs.Common.{arith}
use Rattle.std.proofs.lemmas.Grind.{common_steps}
use Rattle.gx_record.specs.Reading.{mark_at}
use Rattle.gx_record.proofs.decode.mark_at.Goals as goal

pub returns-in-1 : goal.returns-in-1
unfolding mark_at
returns-in-1 c = grind (arith, common_steps)
