use Rattle.std.proofs.Common.{arith}
use Rattle.gx_disk.proofs.memory.MemDisk.from_bytes.Goals as goal

pub invariant_of-result-clause-whole : goal.invariant_of-result-clause-whole
invariant_of-result-clause-whole c = omega (arith, c.args.bytes.ok.0)
