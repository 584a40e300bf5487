use Rattle.gx_record.proofs.Writes.{then_wrote}
use Rattle.gx_record.proofs.encode.write_commit.Goals as goal

pub returns : goal.returns
returns c = then_wrote c.put_bytes-at.ensures.wrote (then_wrote c.put_u64-at.ensures.wrote c.put_u64.ensures.wrote)
