use Rattle.std.proofs.Common.{arith}
use Rattle.std.proofs.lemmas.Grind.{common_steps}
use Rattle.gx_record.specs.Reading.{record_at, fields_at}
use Rattle.gx_record.proofs.decode.record_at.Goals as goal

pub returns-in-3 : goal.returns-in-3
unfolding record_at fields_at
returns-in-3 c = grind (arith, common_steps)

pub returns-in-4 : goal.returns-in-4
unfolding record_at fields_at
returns-in-4 c = grind (arith, common_steps)
