use Rattle.std.proofs.Common.{◌+◌, ap}
use Rattle.gx_record.specs.declared.sizes.TheConstants.{WRITE_BESIDE_KEY}
use Rattle.gx_storage.proofs.journal.write.write_size.Goals as goal

pub returns : goal.returns
returns g c = ap (λ n. n + WRITE_BESIDE_KEY) c.KEY.ensures
