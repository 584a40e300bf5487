use Rattle.gx_record.proofs.Writes.{then_wrote}
use Rattle.gx_record.proofs.encode.put_page.Goals as goal

pub returns-clause-wrote : goal.returns-clause-wrote
returns-clause-wrote c = then_wrote c.put_u32-at.ensures.wrote c.put_bytes.ensures.wrote
