use Rattle.gx_record.proofs.Writes.{then_wrote}
use Rattle.gx_record.proofs.encode.put_entry.Goals as goal

pub returns-clause-wrote : goal.returns-clause-wrote
returns-clause-wrote c = then_wrote c.put_u64-at.ensures.wrote (then_wrote c.put_u64-at-2.ensures.wrote c.put_bytes.ensures.wrote)
