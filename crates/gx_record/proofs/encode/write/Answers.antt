use Rattle.std.proofs.Common.{rules}
use Rattle.gx_record.proofs.encode.write.Goals as goal

pub returns-in-End : goal.returns-in-End
returns-in-End c = search rules

pub returns-in-Bit : goal.returns-in-Bit
returns-in-Bit c = search rules
